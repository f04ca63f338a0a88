-- What is said of the move that comes, where one does and where none does.
use Rattle.std.specs.Prelude.{Option, Some, None, ◌≡◌, refl, unwrap_or}
use Rattle.std.specs.Option.{ForSome, is_some}
use Rattle.std.proofs.Common.{ap, subst}
use Rattle.model.proofs.Laws.Bool.{both_ways}

module _ {A : Type 0} where
  same-some : {x y : A} → ◌≡◌ {A = Option A} (Some x) (Some y) → x ≡ y
  same-some {x} e = ap (λ (o : Option A). unwrap_or o x) e

  pub only : (P : A → Type 0) {x : A} → P x → ForSome (Some x) P
  only P h y e = subst P (same-some e) h

  pub never : (P : A → Type 0) → ForSome None P
  never P y e = both_ways (ap (λ (o : Option A). is_some o) e) refl
