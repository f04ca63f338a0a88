-- Frames, and numbers of two bytes over them.
use Rattle.std.specs.Prelude.{ℕ, ◌+◌, ◌*◌, ◌/◌, ◌%◌, ◌≤◌, ◌<◌, List, ◌⊎◌, ◌≡◌, refl, length, get_or, set}
use Rattle.std.proofs.Common.{⊎_elim, ◌∙◌, div-add-mod', arith, length-set, get_or-set_same, get_or-set_other}
use Rattle.std.proofs.Math.Logic.{⊎_map}
use Rattle.std.proofs.Math.Path.{ap₂}
use Rattle.promises.specs.Layout.{word_at, set_word}
use Rattle.memory.specs.Room.{Room}
use Rattle.memory.specs.Frame.{DifferWithin}

-- ---- frames

pub frame-refl : {a b : ℕ} (m : List ℕ) → DifferWithin a b m m
frame-refl m = record { length = refl; same = λ i h. refl }

pub frame-trans : {a b : ℕ} {m m' m'' : List ℕ} → DifferWithin a b m m' → DifferWithin a b m' m'' → DifferWithin a b m m''
frame-trans f g = record { length = g.length ∙ f.length; same = λ i h. g.same i h ∙ f.same i h }

pub frame-widen : {a b a' b' : ℕ} {m m' : List ℕ} → a' ≤ a → b ≤ b' → DifferWithin a b m m' → DifferWithin a' b' m m'
frame-widen l u f = record { length = f.length; same = λ i h. f.same i (⊎_map (λ k. omega arith) (λ k. omega arith) h) }

pub room-over : (c : ℕ) {a b : ℕ} {m m' : List ℕ} → DifferWithin a b m m' → Room c m → Room c m'
room-over c f room = (omega (arith, f.length), room.1)

-- ---- numbers of two bytes

-- The bytes from s up to e lie outside the frame from a up to b.
abbrev pub Apart : ℕ → ℕ → ℕ → ℕ → Type 0
Apart a b s e = (e ≤ a) ⊎ (b ≤ s)

pub byte-frame : (o v : ℕ) (m : List ℕ) → DifferWithin o (o + 1) m (set m o v)
byte-frame o v m =
    record {
      length = length-set m o v;
      same = λ i h. get_or-set_other m o i v 0 (λ e. ⊎_elim (λ k. omega arith) (λ k. omega arith) h);
    }

pub word-frame : (o v : ℕ) (m : List ℕ) → DifferWithin o (o + 2) m (set_word o v m)
unfolding set_word
word-frame o v m =
    frame-trans (frame-widen (omega arith) (omega arith) (byte-frame o (v % 256) m))
    (frame-widen (omega arith) (omega arith) (byte-frame (o + 1) (v / 256) (set m o (v % 256))))

module _ {a b : ℕ} {m m' : List ℕ} (f : DifferWithin a b m m') where
  pub byte-across : (o : ℕ) → Apart a b o (o + 1) → get_or m' o 0 ≡ get_or m o 0
  byte-across o h = f.same o (⊎_map (λ k. omega arith) (λ k. k) h)

  pub word-across : (o : ℕ) → Apart a b o (o + 2) → word_at o m' ≡ word_at o m
  unfolding word_at
  word-across o h =
      ap₂ (λ (x y : ℕ). x + 256 * y)
      (byte-across o (⊎_map (λ k. omega arith) (λ k. k) h))
      (byte-across (o + 1) (⊎_map (λ k. omega arith) (λ k. omega arith) h))

pub word-length : (o v : ℕ) (m : List ℕ) → length (set_word o v m) ≡ length m
word-length o v m = (word-frame o v m).length

pub word-stored : (o v : ℕ) (m : List ℕ) → o + 1 < length m → word_at o (set_word o v m) ≡ v
unfolding word_at set_word
word-stored o v m fits = ap₂ (λ (x y : ℕ). x + 256 * y) low high ∙ omega (arith, div-add-mod' v 256)
  where
    m' : List ℕ
    m' = set m o (v % 256)

    low : get_or (set m' (o + 1) (v / 256)) o 0 ≡ v % 256
    low = get_or-set_other m' (o + 1) o (v / 256) 0 (λ e. omega arith) ∙ get_or-set_same m o (v % 256) 0 (omega arith)

    high : get_or (set m' (o + 1) (v / 256)) (o + 1) 0 ≡ v / 256
    high = get_or-set_same m' (o + 1) (v / 256) 0 (omega (arith, length-set m o (v % 256)))
