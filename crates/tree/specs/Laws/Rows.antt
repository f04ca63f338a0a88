-- A row stored whole: its number, then its height.
use Rattle.std.specs.Prelude.{ℕ, ◌<◌, ◌≢◌, ◌≡◌}
use mathlib.Core.List.{List}
use Rattle.std.proofs.Math.Path.{ap, ap₂}
use Rattle.std.proofs.Common.{◌∙◌, arith}
use Rattle.promises.specs.Layout.{number_in, height_in, costs_in, move_in, placed_in}
use Rattle.memory.specs.Room.{Room}
use Rattle.memory.specs.Stores.{set_number, set_height}
use Rattle.memory.specs.Frame.{RowsOnly}
use Rattle.memory.specs.Laws.Frames.{frame-trans}
use Rattle.memory.specs.Laws.Fields.{costs-over-rows}
use Rattle.memory.specs.Laws.Stored.{set_number-rows, set_height-rows, length-set_number, number-set_number, number-set_number-other, number-set_height, height-set_number, height-set_height, height-set_height-other}
use Rattle.memory.specs.Laws.Lines.{placed-ext}
use Rattle.tree.specs.Rows.{row}

abbrev pub set_row : ℕ → ℕ → ℕ → ℕ → List ℕ → List ℕ
set_row c i v k m = set_height c i k (set_number c i v m)

-- Place j of m' has the row of place i of m.
pub record SameRow (c : ℕ) (m : List ℕ) (i : ℕ) (m' : List ℕ) (j : ℕ) : Type 0 where
  pub number : number_in c m' j ≡ number_in c m i
  pub height : height_in c m' j ≡ height_in c m i

module _ (c i v k : ℕ) (m : List ℕ) (h : i < c) where
  pub set_row-rows : RowsOnly c m (set_row c i v k m)
  set_row-rows = frame-trans (set_number-rows c i m h v) (set_height-rows c i (set_number c i v m) h k)

  pub number-set_row : Room c m → number_in c (set_row c i v k m) i ≡ v
  number-set_row room = number-set_height c i (set_number c i v m) i k h ∙ number-set_number c i m room h v

  pub height-set_row : Room c m → height_in c (set_row c i v k m) i ≡ k
  height-set_row room = height-set_height c i (set_number c i v m) (omega (arith, length-set_number c i v m), room.1) h k

  pub set_row-other : (j : ℕ) → j < c → j ≢ i → SameRow c m j (set_row c i v k m) j
  set_row-other j l ne =
      record {
        number = number-set_height c i (set_number c i v m) j k l ∙ number-set_number-other c i m j ne v;
        height = height-set_height-other c i (set_number c i v m) j ne k ∙ height-set_number c i m j v h;
      }

pub same-trans : {c i j k : ℕ} {m m' m'' : List ℕ} → SameRow c m' j m'' k → SameRow c m i m' j → SameRow c m i m'' k
same-trans s t = record { number = s.number ∙ t.number; height = s.height ∙ t.height }

module _ (c d : ℕ) {m m' : List ℕ} (f : RowsOnly c m m') where
  pub same-placed : (i j : ℕ) → SameRow c m i m' j → placed_in c d m' j ≡ placed_in c d m i
  same-placed i j s = placed-ext c d m m' i j s.number (costs-over-rows c f d (number_in c m i)) s.height

  pub row-placed : (i v k : ℕ) → number_in c m' i ≡ v → height_in c m' i ≡ k → placed_in c d m' i ≡ row c d m v k
  unfolding row placed_in move_in
  row-placed i v k number height =
      ap₂ (λ (n h : ℕ). record { move = record { number = n; costs = costs_in c d m' n }; height = h }) number height
      ∙ ap (λ (cs : List ℕ). record { move = record { number = v; costs = cs }; height = k }) (costs-over-rows c f d v)
