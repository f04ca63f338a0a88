-- What turns the hours call down, and its plan.
use Rattle.std.specs.Prelude.{ℕ, ◌≤◌, ◌<◌, Bool, true, false, List, [], ◌∷◌, ◌≡◌, refl, take}
use Rattle.std.proofs.Math.Path.{ap}
use Rattle.std.proofs.Common.{◌∙◌}
use Rattle.zorder.specs.Refusal.{refusal}
use Rattle.model.specs.Hours.{Hours, block_count, minute_bad}
use Rattle.model.specs.Opening.{query_opens}
use Rattle.model.specs.Calls.{Answer, accepted, refused_with, or_else, Board, hours_query, hours_refusal, query_refusal}
use Rattle.promises.specs.Answers.{answer_of, refused_by}
use Rattle.promises.specs.Layout.{board_in}
use Rattle.promises.specs.declared.Reason.TheVariants.{BadHours}
use Rattle.memory.specs.Held.{SoundAt}
use Rattle.memory.specs.declared.head.Head.{Head}
use Rattle.upkeep.specs.Found.{FindsMoves}
use Rattle.upkeep.specs.declared.found.Found.{Found}
use Rattle.rows.specs.Planned.{QueryPlanned, PlansFound}
use Rattle.rows.specs.declared.plan.Plan.{Plan}
use Rattle.hours.specs.Open.{FirstBad, OpenBlocks, shown_in}
use Rattle.hours.specs.Laws.Shown.{hours-rows}

module _ (b : Board) (t : ℕ) (hours : List Hours) where
  first-check : Bool → Answer
  first-check bad = or_else (refused_with (refusal ((bad, 7) ∷ []))) (hours_refusal 0 (take block_count hours))

  pub minute-refused : minute_bad t ≡ true → query_refusal b (hours_query t hours) ≡ refused_with 7
  unfolding query_refusal or_else refused_with refusal first-check
  minute-refused e = ap first-check e

  by_entries : minute_bad t ≡ false → query_refusal b (hours_query t hours) ≡ hours_refusal 0 (take block_count hours)
  unfolding query_refusal or_else refused_with refusal first-check
  by_entries e = ap first-check e

  module _ (l : minute_bad t ≡ false) {k : ℕ} (f : FirstBad hours k) where
    pub hours-refused : k < 64 → query_refusal b (hours_query t hours) ≡ answer_of (refused_by BadHours k)
    hours-refused h = by_entries l ∙ f.bad h

    pub hours-right : 64 ≤ k → query_refusal b (hours_query t hours) ≡ accepted
    hours-right h = by_entries l ∙ f.none h

pub hours-planned : {h : Head} {m : List ℕ} {t blocks lent : ℕ} {hours : List Hours} {found : Found} {p : Plan}
    → SoundAt h m
    → OpenBlocks t hours blocks
    → FindsMoves h (shown_in h blocks m) m found
    → PlansFound h found 0 lent p
    → query_refusal (board_in m) (hours_query t hours) ≡ accepted
    → QueryPlanned (hours_query t hours) m lent p
unfolding query_opens
hours-planned {h} {m} {t} {hours = hours} s o f plan ok =
    plan.plans s f _ ok _ (hours-rows h.size h.dimension h.count m s o) (λ _. 0) (λ _ _. refl)
