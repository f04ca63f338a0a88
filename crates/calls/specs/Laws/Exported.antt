-- A list planned and told, a change planned and told, or carried out besides, keeps the exported promise.
use Rattle.std.specs.Prelude.{ℕ, List, map, ◌≡◌, length}
use Rattle.std.proofs.Common.{sym, ap, ◌∙◌, arith}
use Rattle.std.proofs.Math.Path.{subst}
use Rattle.std.proofs.lemmas.List.{length-map}
use Rattle.model.specs.Calls as calls
use Rattle.promises.specs.Answers.{result_row}
use Rattle.rows.specs.Planned.{QueryPlanned, answered}
use Rattle.rows.proofs.Planned.{query-promise}
use Rattle.rows.specs.Rows.{row_numbers}
use Rattle.rows.specs.declared.plan.Plan.{Plan}
use Rattle.rows.specs.declared.row.Row.{Row}
use Rattle.planning.specs.Kind.{call_of}
use Rattle.planning.specs.Plan.{Planned, CarriedOut}
use Rattle.planning.specs.declared.change.Change.{Change}
use Rattle.planning.specs.declared.plan.ChangePlan.{ChangePlan}
use Rattle.board.specs.Laws.Promise.{plan-said, plan-promise}
use Rattle.calls.specs.Exported.{rows_of, ChangeExported, PreviewExported, QueryExported}
use Rattle.calls.specs.Told.{ListAsked, ListTold, NoticeAsked, NoticeTold}
use Rattle.calls.specs.declared.answer.Answer.{Answer}

-- What is said with so many lent rows, by the rows as the definitions speak of them.
by_rows : (Says : ℕ → Type 0) (lent : List Row) → Says (length lent) → Says (length (rows_of lent))
unfolding rows_of
by_rows Says lent = subst Says (sym (length-map (map row_numbers lent) result_row ∙ length-map lent row_numbers))

-- ---- a list

module _ (q : calls.Query) {m : List ℕ} (lent : List Row) {p : Plan} (plan : QueryPlanned q m (length lent) p) where
  pub list-asked : ListAsked p m lent
  list-asked = record { readable = plan.tells.asked; enough = plan.enough }

  pub query-exported : (lent' : List Row) {r : Answer} → ListTold p m lent r lent' → QueryExported q m (rows_of lent) r (rows_of lent')
  unfolding rows_of
  query-exported lent' told =
      record {
        answer = answered p.verdict p.need p.opened;
        handed = told.handed;
        promise = query-promise (map row_numbers lent) (by_rows (λ n. QueryPlanned q m n p) lent plan) (ap (map result_row) told.rows);
      }

-- ---- a change

module _ {x : Change} {c : calls.Change} (ties : call_of x ≡ c) {m : List ℕ} (lent : List Row) {p : ChangePlan} (plan : Planned x m (length lent) p) where
  pub notice-asked : NoticeAsked p m lent
  notice-asked = record { left = plan.leaves.asked; entered = plan.enters.asked; within = plan.within; enough = omega (arith, plan.enough) }

  abbrev planned : Planned x m (length (rows_of lent)) p
  planned = by_rows (λ n. Planned x m n p) lent plan

  module _ (lent' : List Row) {r : Answer} (told : NoticeTold p m lent r lent') where
    pub preview-exported : PreviewExported c m (rows_of lent) r (rows_of lent')
    unfolding rows_of
    preview-exported =
        subst (λ c. PreviewExported c m (rows_of lent) r (rows_of lent')) ties
        (record {
          answer = answered p.verdict p.need p.opened;
          handed = told.handed;
          promise = plan-said (map row_numbers lent) planned (ap (map result_row) told.rows);
        })

    pub change-exported : {m' : List ℕ} → CarriedOut p m m' → ChangeExported c m (rows_of lent) r m' (rows_of lent')
    unfolding rows_of
    change-exported {m'} out =
        subst (λ c. ChangeExported c m (rows_of lent) r m' (rows_of lent')) ties
        (record {
          answer = answered p.verdict p.need p.opened;
          handed = told.handed;
          promise = plan-promise (map row_numbers lent) planned out (ap (map result_row) told.rows);
        })
