-- Withdrawing a move, step by step on sound memory: what the steps ask, and what all of them leave.
use Rattle.std.specs.Prelude.{ℕ, ◌-◌, ◌≤◌, ◌<◌, List, ◌≡◌, length}
use Rattle.std.proofs.Math.Path.{refl}
use Rattle.std.proofs.Common.{◌∙◌, subst}
use Rattle.model.specs.Calls as calls
use Rattle.model.specs.Changing.{change_tree}
use Rattle.promises.specs.Layout.{number_in}
use Rattle.promises.specs.Run.{Bytes}
use Rattle.memory.specs.Held.{SoundRows}
use Rattle.memory.specs.Stores.{set_count}
use Rattle.memory.specs.Laws.Written.{only-trans, flags-written}
use Rattle.tree.specs.Withdraw as withdraw
use Rattle.upkeep.specs.Change.{moves_after}
use Rattle.upkeep.specs.Flag.{SetFlags}
use Rattle.upkeep.specs.Laws.Change.{rest-without}
use Rattle.upkeep.specs.declared.exchange.Upkeep.{Upkeep}
use Rattle.planning.specs.Change.{ToWithdraw, WithdrawMade}
use Rattle.board.specs.Laws.Rows.{holds-sound, holds-over-flags, holds-counted}
use Rattle.board.specs.Laws.Made.{FlagsRight, made}
use Rattle.board.specs.Laws.Flags.{flags-gone}
use Rattle.board.specs.Laws.Steps.{gone-written, gone-flag, gone-holds, gone-moves}

module _ {c d n p : ℕ} {u : Upkeep} {m m₁ : List ℕ} (a : ToWithdraw c d n p u m) (b : Bytes m)
    (set : SetFlags c n u.changed m m₁) where
  abbrev s : SoundRows c d n m
  s = a.asked.sound

  pub withdraw-line-asked : withdraw.WithdrawAsked c d n p m₁
  withdraw-line-asked =
      let t = s.sound.tree in
      record {
        tree = record { tree = t; holds = holds-over-flags (holds-sound s b t s.sound.stands) set.frame };
        place = a.place;
      }

  pub withdraw-count-asked : {m₂ : List ℕ} → withdraw.Withdrawn c d n p m₁ m₂ → (16 ≤ length m₂) × (n - 1 < 65536)
  withdraw-count-asked w = holds-counted (gone-holds w s b a.place set.frame s.sound.tree s.sound.stands)

  pub withdraw-made : {m₂ m₃ : List ℕ} → withdraw.Withdrawn c d n p m₁ m₂ → m₃ ≡ set_count (n - 1) m₂ → WithdrawMade c p m m₃
  unfolding change_tree calls.changed_moves moves_after
  withdraw-made {m₂} w e₃ =
      record {
        kept = λ t stands.
            made s (calls.withdraw (number_in c m p)) t
            (only-trans (flags-written c set.frame) (gone-written w))
            (gone-holds w s b a.place set.frame t stands)
            (gone-moves w s b a.place set.frame t stands ∙ rest-without c d n p m s b a.place)
            (subst (FlagsRight c d m₂) (rest-without c d n p m s b a.place)
            (flags-gone a.asked a.upkept set m₂ refl (gone-flag w)))
            e₃;
      }
