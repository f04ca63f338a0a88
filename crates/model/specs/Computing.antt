-- One name that opens every definition, for theorems that compute examples.
use mathlib.Core.List.{flat_map}
use Rattle.zorder.specs.Address.{bit, group, groups, address, cost_from_bits, costs_from, costs_of, padded}
use Rattle.zorder.specs.Words.{words_of}
use Rattle.zorder.specs.Region.{groups_of, agreeing, kept, unkept, zeros_below, ones_below, near_corner, far_corner, side}
use Rattle.zorder.specs.Between.{before, same_place, side_of, near_of, far_of}
use Rattle.zorder.specs.Refusal.{refusal, all_zero, cost_count_bad, cost_past_bad}
use Rattle.model.specs.Basics.{select, any, all, count, insert_by, sort_by, rising, first_or, last_or, parts, numbers_from, within, has, distinct, equal}
use Rattle.model.specs.Moves.{move_of, row_of, same_row, z_before, move_before, row_before, insert, in_z_order, ordered}
use Rattle.model.specs.Dominance.{less, nowhere_greater, somewhere_less, better, dominates, at, dominates_at, dominates_on, equal_costs, lower_twin, hides}
use Rattle.model.specs.Lists.{hidden, skyline, dominators, band, dominated, rank_before, rank, on_k, chosen, chosen_costs, listed_rows}
use Rattle.model.specs.Hours.{windows_of, minute_bad, window_bad, hours_bad, open_in, block_open, open_moves}
use Rattle.model.specs.Tree.{moves_under, moves_of, first_move, last_move, node_side, filled, root_least, filled_tree, ruled}
use Rattle.model.specs.Loading.{eights, evened, mended, cut, levels, built, load_tree}
use Rattle.model.specs.Entering.{earlier_in_gap, goes_into, child_place, sides_at, least_by, left_part, split, replace_at, enter_node, root_of, enter_tree}
use Rattle.model.specs.Withdrawing.{without, keep_child, keep_children, withdraw_node, settled, enter_all, withdraw_tree, costs_on, unchanged, recost_tree}
use Rattle.model.specs.Nodes.{node_of, nodes_from, nodes_of, near_corner_of, far_corner_of, opens, nodes_opened}
use Rattle.model.specs.Notice.{missing, notice_of}
use Rattle.model.specs.Calls.{accepted, refused_with, or_else, rows_answer, size_bad, memory_need, block_bad, row_refusal, rows_refusal, load_answer, on_board, give_block, blocks_on, row_blocks, loaded, change_refusal, changed_moves, changed_blocks, changed, keeps_moves, changes_nothing, list_of, change_notice, change_answer, hours_refusal, query_refusal, query_rows, query_answer}
use Rattle.model.specs.Changing.{change_tree}
use Rattle.model.specs.Opening.{opens_for, withdraw_opens, change_opens}

unfoldable pub computing : Unit {0}
unfolding flat_map bit group groups address cost_from_bits costs_from costs_of padded words_of groups_of agreeing kept unkept zeros_below ones_below near_corner far_corner side before same_place side_of near_of far_of refusal all_zero cost_count_bad cost_past_bad select any all count insert_by sort_by rising first_or last_or parts numbers_from within has distinct equal move_of row_of same_row z_before move_before row_before insert in_z_order ordered less nowhere_greater somewhere_less better dominates at dominates_at dominates_on equal_costs lower_twin hides hidden skyline dominators band dominated rank_before rank on_k chosen chosen_costs listed_rows windows_of minute_bad window_bad hours_bad open_in block_open open_moves moves_under moves_of first_move last_move node_side filled root_least filled_tree ruled eights evened mended cut levels built load_tree earlier_in_gap goes_into child_place sides_at least_by left_part split replace_at enter_node root_of enter_tree without keep_child keep_children withdraw_node settled enter_all withdraw_tree costs_on unchanged recost_tree node_of nodes_from nodes_of near_corner_of far_corner_of opens nodes_opened missing notice_of accepted refused_with or_else rows_answer size_bad memory_need block_bad row_refusal rows_refusal load_answer on_board give_block blocks_on row_blocks loaded change_refusal changed_moves changed_blocks changed keeps_moves changes_nothing list_of change_notice change_answer hours_refusal query_refusal query_rows query_answer change_tree opens_for withdraw_opens change_opens
computing = tt
