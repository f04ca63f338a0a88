-- "frames use block 0" (document 02, Card 8): every move that a frame gives, and every board that is held.
use Rattle.std.specs.Prelude.{ℕ, ◌*◌, ◌+◌, List, [], ◌∷◌, ◌≡◌, refl, eqb, length, get_or}
use Rattle.model.specs.Basics.{has}
use Rattle.model.specs.Loading.{load_tree}
use Rattle.model.specs.Changing.{change_tree}
use Rattle.model.specs.Calls as calls
use Rattle.model.specs.Calls.{Change, give_block, row_blocks, changed_blocks, changed, change_answer}
use Rattle.model.proofs.Laws.Bool.{cond_cases}
use Rattle.frame_lines.specs.Digits.{bytes_of}
use Rattle.frame_lines.specs.State.{State, unloaded, holds}
use Rattle.frame_lines.specs.Frames.{Frame, load, change, list, early, wrong, sized, call_frame, board_frame, call_codes, frame_in, whole_bytes, frame_of}
use Rattle.framing.specs.Session.{board_size, lent_rows, load_says, held_by, held, after}

-- The change gives block 0, if any.
unfoldable pub GivesZero : Change → Type 0
GivesZero (calls.enter n block costs) = block ≡ 0
GivesZero (calls.withdraw n) = Unit {0}
GivesZero (calls.recost n block costs) = block ≡ 0

unfoldable pub FrameZero : Frame → Type 0
FrameZero (load d) = Unit {0}
FrameZero (change x) = GivesZero x
FrameZero list = Unit {0}
FrameZero early = Unit {0}
FrameZero wrong = Unit {0}

-- Whatever is held has all its moves in block 0.
unfoldable pub HeldZero : State → Type 0
HeldZero unloaded = Unit {0}
HeldZero (holds b t) = (n : ℕ) → b.blocks n ≡ 0

-- ---- frames

sized-zero : (n : ℕ) (rest : List ℕ) (f : Frame) → FrameZero f → FrameZero (sized n rest f)
unfolding sized FrameZero
sized-zero n rest f h = cond_cases FrameZero (eqb (length rest) n) (λ _. h) (λ _. tt)

call-zero : (d code : ℕ) (rest : List ℕ) → FrameZero (call_frame d code rest)
unfolding call_frame FrameZero GivesZero
call-zero d code rest =
    cond_cases FrameZero (eqb code 0x20) (λ _. sized-zero (2 + 2 * d) rest _ refl)
    (λ _. cond_cases FrameZero (eqb code 0x30) (λ _. sized-zero 2 rest _ tt)
    (λ _. cond_cases FrameZero (eqb code 0x40) (λ _. sized-zero (2 + 2 * d) rest _ refl) (λ _. sized-zero 0 rest list tt)))

board-zero : (s : State) (code : ℕ) (rest : List ℕ) → FrameZero (board_frame s code rest)
unfolding board_frame FrameZero
board-zero unloaded code rest = tt
board-zero (holds b t) code rest = call-zero b.dimension code rest

in-zero : (s : State) (bytes : List ℕ) → FrameZero (frame_in s bytes)
unfolding frame_in FrameZero
in-zero s [] = tt
in-zero s (code ∷ rest) =
    cond_cases FrameZero (eqb code 0x10) (λ _. sized-zero 1 rest (load (get_or rest 0 0)) tt)
    (λ _. cond_cases FrameZero (has code call_codes) (λ _. board-zero s code rest) (λ _. tt))

pub frame-zero : (s : State) (line : List ℕ) → FrameZero (frame_of s line)
unfolding frame_of FrameZero
frame-zero s line = cond_cases FrameZero (whole_bytes line) (λ _. in-zero s (bytes_of line)) (λ _. tt)

-- ---- what is held

give-zero : (n block : ℕ) (blocks : ℕ → ℕ) → block ≡ 0 → ((k : ℕ) → blocks k ≡ 0) → (k : ℕ) → give_block n block blocks k ≡ 0
unfolding give_block
give-zero n block blocks e h k = cond_cases (λ (v : ℕ). v ≡ 0) (eqb k n) (λ _. e) (λ _. h k)

changed-zero : (x : Change) (blocks : ℕ → ℕ) → GivesZero x → ((k : ℕ) → blocks k ≡ 0) → (k : ℕ) → changed_blocks x blocks k ≡ 0
unfolding changed_blocks GivesZero
changed-zero (calls.enter n block costs) blocks e h = give-zero n block blocks e h
changed-zero (calls.withdraw n) blocks e h = give-zero n 0 blocks refl h
changed-zero (calls.recost n block costs) blocks e h = give-zero n block blocks e h

held-by-zero : (a : calls.Answer) (new old : State) → HeldZero new → HeldZero old → HeldZero (held_by a new old)
unfolding held_by
held-by-zero a new old h k = cond_cases HeldZero (eqb a.number 0) (λ _. h) (λ _. k)

held-zero : (f : Frame) (s : State) → FrameZero f → HeldZero s → HeldZero (held f s)
unfolding held FrameZero HeldZero calls.loaded row_blocks changed
held-zero (load d) s z h = held-by-zero (load_says d) (holds (calls.loaded board_size d []) (load_tree d [])) s (λ n. refl) h
held-zero (change x) unloaded z h = tt
held-zero (change x) (holds b t) z h =
    held-by-zero (change_answer b x lent_rows) (holds (changed b x) (change_tree b.dimension x t)) (holds b t) (changed-zero x b.blocks z h) h
held-zero list s z h = h
held-zero early s z h = h
held-zero wrong s z h = h

-- After every line.
pub after-zero : (s : State) (line : List ℕ) → HeldZero s → HeldZero (after s line)
unfolding after
after-zero s line = held-zero (frame_of s line) s (frame-zero s line)
