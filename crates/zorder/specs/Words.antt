-- Two words as one number (Card 13: "an address has up to 128 bits in two words"), the upper word first.
use Rattle.std.specs.Prelude.{ℕ, ◌+◌, ◌*◌, ◌/◌, ◌%◌, ◌^◌}
use Rattle.zorder.specs.declared.AddressWords.{AddressWords}

-- How many bits a word has.
abbrev pub word_bits : ℕ
word_bits = 64

unfoldable pub value : AddressWords → ℕ
value a = a.upper * 2 ^ word_bits + a.lower

-- The words of a number.
unfoldable pub words_of : ℕ → AddressWords
words_of n = record { upper = n / 2 ^ word_bits; lower = n % 2 ^ word_bits }
