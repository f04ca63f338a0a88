-- How long texts are, and the same text from a number's lower bytes.
use Rattle.std.specs.Prelude.{ℕ, ◌/◌, ◌%◌, List, [], ◌∷◌, ◌≡◌, refl, length}
use Rattle.std.proofs.Common.{ap₂, ◌∙◌, arith}
use Rattle.frame_lines.specs.Digits.{digit_of}
use Rattle.frame_lines.specs.Text.{byte_text, word_text}
use Rattle.frame_lines.specs.Put.{head_text}

pub byte_text-length : (n : ℕ) → length (byte_text n) ≡ 2
unfolding byte_text
byte_text-length n = refl

pub word_text-length : (n : ℕ) → length (word_text n) ≡ 4
unfolding word_text byte_text
word_text-length n = refl

pub head-length : (number n : ℕ) → length (head_text number n) ≡ 6
unfolding head_text byte_text word_text
head-length number n = refl

-- The digits of a byte.
pub byte_text-digits : (n x y : ℕ) → x ≡ digit_of (n / 16 % 16) → y ≡ digit_of (n % 16) → ◌≡◌ {A = List ℕ} (x ∷ y ∷ []) (byte_text n)
unfolding byte_text
byte_text-digits n x y first second = ap₂ (λ (a b : ℕ). a ∷ b ∷ []) first second

pub word_text-low : (n : ℕ) → word_text (n % 65536) ≡ word_text n
unfolding word_text byte_text
word_text-low n =
    let a : n % 65536 / 256 / 16 % 16 ≡ n / 256 / 16 % 16 = omega arith in
    let b : n % 65536 / 256 % 16 ≡ n / 256 % 16 = omega arith in
    let c : n % 65536 / 16 % 16 ≡ n / 16 % 16 = omega arith in
    let e : n % 65536 % 16 ≡ n % 16 = omega arith in
    ap₂ (λ (x y : ℕ). digit_of x ∷ digit_of y ∷ digit_of (n % 65536 / 16 % 16) ∷ digit_of (n % 65536 % 16) ∷ []) a b
    ∙ ap₂ (λ (x y : ℕ). digit_of (n / 256 / 16 % 16) ∷ digit_of (n / 256 % 16) ∷ digit_of x ∷ digit_of y ∷ []) c e
