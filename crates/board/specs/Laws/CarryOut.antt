-- Carrying out a plan, by its kind.
use Rattle.std.specs.Prelude.{ℕ, Some, List, ◌≡◌}
use Rattle.std.specs.Option.{ForSome, ForNone}
use Rattle.std.proofs.Common.{sym, subst, ◌∙◌, arith}
use Rattle.promises.specs.Sound.{Sound}
use Rattle.model.specs.Calls as calls
use Rattle.promises.specs.Layout.{number_in}
use Rattle.promises.specs.Answers.{number_of}
use Rattle.memory.specs.Stores.{set_block}
use Rattle.planning.specs.Kind.{call_of, asked_number, given_block}
use Rattle.dominance.specs.Move.{as_move}
use Rattle.dominance.specs.declared.Move.{Move}
use Rattle.planning.specs.Change.{Made, EnterMade, WithdrawMade, RecostMade}
use Rattle.planning.specs.Plan.{MovesReady, MovesMade, CarriedOut, PreparedFor}
use Rattle.planning.specs.declared.change.Change.{Change}
use Rattle.planning.specs.declared.change.Change.TheVariants.{Enter, Withdraw, Recost}
use Rattle.planning.specs.declared.plan.ChangePlan.{ChangePlan}
use Rattle.planning.specs.declared.plan.Places.{Places}
use Rattle.planning.proofs.Laws.Coming.{never}

module _ (p : ChangePlan) (m : List ℕ) (ready : MovesReady p m) (q : Places) (h : p.places ≡ Some q) where
  -- What the plan's change asks.
  pub prepared-for : {x : Change} → p.change ≡ x → PreparedFor x p.head q.goes p.upkeep m
  prepared-for e = subst (λ (x : Change). PreparedFor x p.head q.goes p.upkeep m) e (ready q h)

  sound-for : (x : Change) → PreparedFor x p.head q.goes p.upkeep m → Sound m
  unfolding PreparedFor
  sound-for (Enter coming block) a = a.asked.sound.sound
  sound-for (Withdraw number) a = a.0.asked.sound.sound
  sound-for (Recost coming block) a = a.asked.sound.sound

  pub moves-made : {m' : List ℕ} {x : Change} → p.change ≡ x → Made (call_of x) m m' → MovesMade p m m'
  moves-made {m'} {x} e made =
      let sound = sound-for x (prepared-for e) in
      record {
        made = λ _ _. subst (λ (y : Change). Made (call_of y) m m') (sym e) made;
        idle = λ f. never (λ _. m' ≡ m) q (sym f ∙ h);
        length = (made.kept sound.tree sound.stands).only.length;
      }

-- The change of moves as it is asked: of the move that comes, into any block; of the number that goes.
pub enter-as : {m m' : List ℕ} (coming : Move) (block : ℕ) → EnterMade (as_move coming) m m' → Made (call_of (Enter coming block)) m m'
enter-as coming block made = made block

pub recost-as : {m m' : List ℕ} (coming : Move) (block : ℕ) → RecostMade (as_move coming) m m' → Made (call_of (Recost coming block)) m m'
recost-as coming block made = made block

pub withdraw-as : {m m' : List ℕ} (c p : ℕ) {number : ℕ} → number_in c m p ≡ number → WithdrawMade c p m m' → Made (calls.withdraw number) m m'
withdraw-as {m} {m'} c p e made = subst (λ (n : ℕ). Made (calls.withdraw n) m m') e made

-- An accepted plan carried out.
pub carried-out : (p : ChangePlan) {m b m' : List ℕ} → number_of p.verdict ≡ 0 → MovesMade p m b
    → ForSome (given_block p.change) (λ block. m' ≡ set_block p.head.size (asked_number p.change) block b) → ForNone (given_block p.change) (m' ≡ b) → CarriedOut p m m'
carried-out p {b = b} z made given kept =
    record { between = b; refused = λ h. absurd (omega (arith, z, h)); moves = λ _. made; given = λ _. given; kept = λ _. kept }
