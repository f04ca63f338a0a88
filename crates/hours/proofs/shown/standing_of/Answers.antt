-- `shown::standing_of` meets its contract. Assumes nothing.
use Prim.Native.Nat.{ℕ, ◌<◌}
use mathlib.Core.Bool.{true, not}
use mathlib.Core.List.{List}
use mathlib.Core.Path.{◌≡◌, refl, sym, ap, ◌∙◌, subst}
use borrow.Author.Tests.{eq-eqb, ne_eqb}
use Rattle.std.specs.Prelude.{Option, is_some}
use native.Mathlib.Omega.{arith}
use Rattle.promises.specs.Layout.{number_in}
use Rattle.promises.specs.Run.{Bytes}
use Rattle.search.specs.Search.{bounds_at, in_blocks, fits, SomeFound}
use Rattle.memory.specs.Held.{SoundAt, move_held}
use Rattle.search.specs.Laws.Search.{tried-found, first-found, first-among}
use Rattle.memory.specs.Laws.Turns.{listed_at}
use Rattle.memory.specs.declared.head.Head.{Head}
use Rattle.search.specs.declared.search.Among.TheVariants.{InBlocks}
use Rattle.hours.specs.Open.{shown_in}
use Rattle.hours.specs.Laws.Shown.{open-found, listed-shown, shut-unshown}
use Rattle.hours.proofs.shown.standing_of.Goals as goal

-- What was found, once the bounds are made: of a move in an open block.
found : (h : Head) (blocks : ℕ) (m : List ℕ) (i n : ℕ) (q : List ℕ) → SoundAt h m → i < h.count → Bytes m → n ≡ number_in h.size m i → in_blocks blocks h.size m n ≡ true →
    q ≡ bounds_at h.size h.dimension m i → {r : Option ℕ} → SomeFound (fits (InBlocks blocks) h.size m q) i r → not (is_some r) ≡ shown_in h blocks m (move_held h m i)
found h blocks m i n q sound at bytes number inside bounds {r} some =
    open-found h.size h.dimension h.count m sound bytes blocks i at r
    (subst (λ (q : List ℕ). SomeFound (fits (InBlocks blocks) h.size m q) i r) bounds some)
    (ap (in_blocks blocks h.size m) (sym number) ∙ inside)

pub returns-then-not-in_blocks : goal.returns-then-not-in_blocks
unfolding Bytes
returns-then-not-in_blocks c =
    let a = c.args in
    let number = c.number_at-number in
    let m = a.open.now.board.bytes.now in
    let bytes : Bytes m = c.args.open.now.board.fits in
    sym (ne_eqb a.open.now.board.head.count a.i (λ e. omega (arith, c.requires.sound_at.1)))
    ∙ shut-unshown a.open.now.board.head.size a.open.now.board.head.dimension a.open.now.board.head.count m c.requires.sound_at.0 bytes a.blocks a.i c.requires.sound_at.1
    (ap (in_blocks a.blocks a.open.now.board.head.size m) (sym number.ensures.0) ∙ sym c.in_blocks.ensures ∙ c.if-not-in_blocks.true)

pub returns-then-is_listed : goal.returns-then-is_listed
unfolding Bytes
returns-then-is_listed c =
    let a = c.args in
    let number = c.number_at-number in
    let inside = c.in_blocks in
    let m = a.open.now.board.bytes.now in
    let bytes : Bytes m = c.args.open.now.board.fits in
    sym (eq-eqb a.i a.i refl)
    ∙ listed-shown a.open.now.board.head.size a.open.now.board.head.dimension a.open.now.board.head.count m c.requires.sound_at.0 bytes a.blocks a.i c.requires.sound_at.1
    (listed_at a.open.now.board.head.size m a.i number.result number.ensures.0 ∙ sym c.is_listed.ensures ∙ c.if-is_listed.true)
    (ap (in_blocks a.blocks a.open.now.board.head.size m) (sym number.ensures.0) ∙ sym inside.ensures ∙ c.if-not-in_blocks.false)

pub returns-then-fits_at : goal.returns-then-fits_at
unfolding Bytes
returns-then-fits_at c =
    let bytes : Bytes c.args.open.now.board.bytes.now = c.args.open.now.board.fits in
    found _ _ _ _ _ _ c.requires.sound_at.0 c.requires.sound_at.1 bytes c.number_at-number.ensures.0 (sym c.in_blocks.ensures ∙ c.if-not-in_blocks.false) c.bounds_at-q.ensures
    (tried-found c.if-last-i.true (sym c.fits_at.ensures ∙ c.if-fits_at.true))

pub returns-in-Some : goal.returns-in-Some
unfolding Bytes
returns-in-Some c =
    let bytes : Bytes c.args.open.now.board.bytes.now = c.args.open.now.board.fits in
    ap (λ (o : Option ℕ). not (is_some o)) (sym c.in-Some.is)
    ∙ found _ _ _ _ _ _ c.requires.sound_at.0 c.requires.sound_at.1 bytes c.number_at-number.ensures.0 (sym c.in_blocks.ensures ∙ c.if-not-in_blocks.false) c.bounds_at-q.ensures
    (first-found (first-among _ _ _ c.requires.open c.next_within.ensures))

pub returns-in-None : goal.returns-in-None
unfolding Bytes
returns-in-None c =
    let bytes : Bytes c.args.open.now.board.bytes.now = c.args.open.now.board.fits in
    ap (λ (o : Option ℕ). not (is_some o)) (sym c.in-None.is)
    ∙ found _ _ _ _ _ _ c.requires.sound_at.0 c.requires.sound_at.1 bytes c.number_at-number.ensures.0 (sym c.in_blocks.ensures ∙ c.if-not-in_blocks.false) c.bounds_at-q.ensures
    (first-found (first-among _ _ _ c.requires.open c.next_within.ensures))
