-- Listed moves held against each other, a chunk of them as columns.
use Rattle.std.specs.Prelude.{ℕ, ◌+◌, ◌-◌, ◌/◌, ◌≤◌, ◌<◌, Bool, true, false, List, [], ◌≡◌, length, get_or, Option, MatchOption}
use Rattle.search.specs.Search.{looks_at, seen_at, fits, bounds_at, Below, Under}
use Rattle.search.specs.Columns.{count_to, Column, Says}
use Rattle.search.specs.declared.search.Among.TheVariants.{Listed}
use Rattle.memory.specs.declared.head.Head.{Head}
use Rattle.skyline.specs.declared.chunks.Chunk.{Chunk}

abbrev pub listed : ℕ → List ℕ → ℕ → Bool
listed c m = looks_at Listed c m

-- ---- the moves of a chunk

-- How many listed moves stand before place j, from place a on: its column.
abbrev pub slot : ℕ → List ℕ → ℕ → ℕ → ℕ
slot c m a j = count_to (listed c m) j - count_to (listed c m) a

-- Column t is a listed move of the places from a up to b.
pub record ListedColumn (c : ℕ) (m : List ℕ) (a b : ℕ) (columns : List ℕ) (t : ℕ) : Type 0 where
  pub place : ℕ
  pub after : a ≤ place
  pub before : place < b
  pub shown : listed c m place ≡ true
  pub held : Column columns t (seen_at Listed c m place)

abbrev pub ListedColumns : ℕ → List ℕ → ℕ → ℕ → List ℕ → Type 0
ListedColumns c m a b columns = (t : ℕ) → t < 64 → ListedColumn c m a b columns t

-- The listed moves from place a up to place b are columns, one after another; every column is one of them, if there are any; and
-- `low` is nowhere greater than they.
pub record Gathered (c : ℕ) (m : List ℕ) (a b : ℕ) (columns low : List ℕ) : Type 0 where
  pub few : count_to (listed c m) b ≤ count_to (listed c m) a + 64
  pub held : (j : ℕ) → a ≤ j → j < b → listed c m j ≡ true → Column columns (slot c m a j) (seen_at Listed c m j)
  pub only : count_to (listed c m) a < count_to (listed c m) b → ListedColumns c m a b columns
  pub below : (j : ℕ) → a ≤ j → j < b → listed c m j ≡ true → Below low (seen_at Listed c m j)

abbrev pub GatheredChunk : Head → List ℕ → List ℕ → Chunk → Type 0
GatheredChunk h m columns chunk = Gathered h.size m chunk.from chunk.to columns chunk.low

-- The chunk has a listed move.
abbrev pub SomeListed : Head → List ℕ → Chunk → Type 0
SomeListed h m chunk = count_to (listed h.size m) chunk.from < count_to (listed h.size m) chunk.to

-- ---- who hides whom

-- No listed move from place a up to b, and before j, is nowhere greater than q.
abbrev pub NoneBefore : ℕ → List ℕ → List ℕ → ℕ → ℕ → ℕ → Type 0
NoneBefore c m q a b j = (k : ℕ) → a ≤ k → k < b → k < j → fits Listed c m q k ≡ false

-- A listed move before place j is.
pub record FitsBefore (c : ℕ) (m q : List ℕ) (j : ℕ) : Type 0 where
  pub place : ℕ
  pub earlier : place < j
  pub fitting : fits Listed c m q place ≡ true

-- No listed move from place a up to b hides a later listed one from place i up to e.
abbrev pub Unhidden : ℕ → ℕ → List ℕ → ℕ → ℕ → ℕ → ℕ → Type 0
Unhidden c d m a b i e = (j : ℕ) → i ≤ j → j < e → listed c m j ≡ true → NoneBefore c m (bounds_at c d m j) a b j

-- A listed move that a listed one before it hides.
pub record ListedHidden (c d n : ℕ) (m : List ℕ) : Type 0 where
  pub place : ℕ
  pub inside : place < n
  pub shown : listed c m place ≡ true
  pub hider : FitsBefore c m (bounds_at c d m place) place

abbrev pub UnhiddenSaid : Head → List ℕ → ℕ → ℕ → ℕ → ℕ → Bool → Type 0
UnhiddenSaid h m a b i e = Says (Unhidden h.size h.dimension m a b i e) (ListedHidden h.size h.dimension h.count m)

-- The next chunk from place a on: at least one place, and a listed move, if it does not go to the last place; none of its moves
-- hides another.
pub record ChunkFrom (h : Head) (m : List ℕ) (a : ℕ) (columns : List ℕ) (r : Chunk) : Type 0 where
  pub starts : r.from ≡ a
  pub more : a < r.to
  pub end : r.to ≤ h.count
  pub gathered : GatheredChunk h m columns r
  pub some : r.to < h.count → SomeListed h m r
  pub unhidden : Unhidden h.size h.dimension m a r.to a r.to

-- That chunk, or none where a listed move hides another.
abbrev pub NextChunk : Head → List ℕ → ℕ → List ℕ → Option Chunk → Type 0
NextChunk h m a columns r = MatchOption r (ListedHidden h.size h.dimension h.count m) (ChunkFrom h m a columns)

-- ---- the highest bounds of each run

-- A row with what the listed moves from place i up to e are held to.
pub record HighWith (c d : ℕ) (m : List ℕ) (i e : ℕ) (high r : List ℕ) : Type 0 where
  pub old : Under high r
  pub new : (k : ℕ) → i ≤ k → k < e → listed c m k ≡ true → Under (bounds_at c d m k) r

pub record Highs (c d : ℕ) (m : List ℕ) (n : ℕ) (highs : List (List ℕ)) : Type 0 where
  pub runs : length highs ≡ 64
  pub above : (i : ℕ) → i < n → listed c m i ≡ true → Under (bounds_at c d m i) (get_or highs (i / 64) [])
