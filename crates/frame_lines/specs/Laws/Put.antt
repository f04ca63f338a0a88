-- Texts put one after the other are one text.
use Rattle.std.specs.Prelude.{ℕ, ◌+◌, ◌≤◌, ◌<◌, List, [], ◌∷◌, ◌++◌, ◌≡◌, refl, length, take, set}
use Rattle.std.proofs.Common.{append_assoc, append-nil, sym, ap, subst, ◌∙◌, add-one, arith, length-append, length-set, length-take, take-suc-set}
use Rattle.frame_lines.specs.Put.{TextPut}

pub put-none : (out : List ℕ) (at : ℕ) → TextPut [] out at out at
put-none out at = record { kept = refl; next = omega arith; text = sym (append-nil (take at out)) }

pub put_one : (out : List ℕ) (at b : ℕ) → at < length out → TextPut (b ∷ []) out at (set out at b) (at + 1)
put_one out at b room =
    record {
      kept = length-set out at b;
      next = refl;
      text = ap (λ (n : ℕ). take n (set out at b)) (add-one at) ∙ take-suc-set out at b room;
    }

pub put_both : {s t o o' o'' : List ℕ} {i j k : ℕ} → TextPut s o i o' j → TextPut t o' j o'' k → TextPut (s ++ t) o i o'' k
put_both {s} {t} {o} {o'} {o''} {i} {j} {k} p q =
    record {
      kept = q.kept ∙ p.kept;
      next = omega (arith, p.next, q.next, length-append s t);
      text = q.text ∙ ap (λ (l : List ℕ). l ++ t) p.text ∙ append_assoc (take i o) s t;
    }

pub put_two : (out : List ℕ) (at a b : ℕ) → at + 2 ≤ length out → TextPut (a ∷ b ∷ []) out at (set (set out at a) (at + 1) b) (at + 2)
put_two out at a b room =
    let two : at + 1 + 1 ≡ at + 2 = omega arith in
    let once = put_one out at a (omega arith) in
    let twice = put_one (set out at a) (at + 1) b (omega (arith, length-set out at a)) in
    subst (TextPut (a ∷ b ∷ []) out at (set (set out at a) (at + 1) b)) two (put_both once twice)

pub put_as : {s t o o' : List ℕ} {i j : ℕ} → s ≡ t → TextPut s o i o' j → TextPut t o i o' j
put_as {s} {t} {o} {o'} {i} {j} e p = subst (λ (l : List ℕ). TextPut l o i o' j) e p

pub put-within : (s o o' : List ℕ) (n : ℕ) → TextPut s o 0 o' n → n ≤ length o'
put-within s o o' n p = omega (arith, p.next, ap length p.text, length-take n o')
