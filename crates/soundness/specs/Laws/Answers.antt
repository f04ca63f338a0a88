-- No answer depends on bytes not in use, and a preview says what the call would: what two calls say, from their promises alone.
use Prim.Native.Nat.{ℕ, zero, suc}
use Rattle.std.specs.Prelude.{Bool, cond, List, map, ◌≡◌, refl, eqb, length, Ok, Err}
use Rattle.std.proofs.Common.{sym, ap, ◌∙◌, subst, subst₂}
use Rattle.std.proofs.Math.Path.{subst₃}
use Rattle.model.specs.Moves.{InputRow, Row, move_of}
use Rattle.model.specs.Tree.{Tree}
use Rattle.model.specs.Loading.{load_tree}
use Rattle.model.specs.Calls as calls
use Rattle.model.specs.Calls.{Board, load_answer, loaded, Query, Change, changed}
use Rattle.model.specs.Changing.{change_tree}
use Rattle.model.specs.Opening.{query_opens, change_opens}
use Rattle.promises.specs.Layout.{size_in, dimension_in, board_in}
use Rattle.promises.specs.Written.{change_writes, load_writes}
use Rattle.promises.specs.Used.{SameInUse}
use Rattle.promises.specs.Answers.{Verdict, answer_of, number_of, accepted_verdict, refused_by, counted, rows_after}
use Rattle.promises.specs.Promise.{MemoryAfter, LoadPromise, Said, QuerySaidOn, QueryPromise, ChangeSaidOn, ChangeSaid, ChangePromise, PreviewPromise}
use Rattle.promises.specs.Run.{Bytes}
use Rattle.promises.specs.declared.Reason.{Reason}
use Rattle.promises.specs.declared.Reason.TheVariants.{ShortMemory, OutOfRange, Unsound, NumberTooLarge, NumberTwice, NumberAbsent, BadArgument, FewRows, BlockTooLarge, BadHours}
use Rattle.promises.specs.declared.CallResult.{CallResult}
use Rattle.soundness.specs.Laws.Alike.{Alike, same_alike, used-alike, holding-alike, alike-dimension, alike-sound, by-soundness}

-- ---- what is said

-- The verdict with this answer.
reason_of : ℕ → Reason
reason_of k =
    cond (eqb k 1) ShortMemory
    (cond (eqb k 2) OutOfRange
    (cond (eqb k 3) Unsound
    (cond (eqb k 4) NumberTooLarge (cond (eqb k 5) NumberTwice (cond (eqb k 6) NumberAbsent (cond (eqb k 7) BadArgument (cond (eqb k 8) FewRows (cond (eqb k 11) BlockTooLarge BadHours))))))))

verdict_of : calls.Answer → Verdict
verdict_of a = cond (eqb a.number 0) accepted_verdict (refused_by (reason_of a.number) a.detail)

refused-of : (r : Reason) (detail : ℕ) → verdict_of (answer_of (refused_by r detail)) ≡ refused_by r detail
unfolding verdict_of reason_of
refused-of ShortMemory detail = refl
refused-of OutOfRange detail = refl
refused-of Unsound detail = refl
refused-of NumberTooLarge detail = refl
refused-of NumberTwice detail = refl
refused-of NumberAbsent detail = refl
refused-of BadArgument detail = refl
refused-of FewRows detail = refl
refused-of BlockTooLarge detail = refl
refused-of BadHours detail = refl

verdict-of : (v : Verdict) → verdict_of (answer_of v) ≡ v
unfolding verdict_of
verdict-of (Ok u) = refl
verdict-of (Err r) = refused-of r.reason r.detail

verdict-same : (v w : Verdict) → answer_of v ≡ answer_of w → v ≡ w
verdict-same v w e = sym (verdict-of v) ∙ ap verdict_of e ∙ verdict-of w

said_same : {a : calls.Answer} {rows : List Row} {nodes : ℕ} {lent lent' lent'' : List Row} {r s : CallResult}
    → Said a rows nodes lent r lent' → Said a rows nodes lent s lent'' → (s ≡ r) × (lent'' ≡ lent')
said_same {a} {rows} {nodes} {lent} {r = r} {s = s} p q =
    let e = verdict-same s.verdict r.verdict (q.answers ∙ sym p.answers) in
    let count = q.counts ∙ ap (λ (w : Verdict). counted (number_of w) (length rows)) e ∙ sym p.counts in
    let opened = q.opens ∙ ap (λ (w : Verdict). counted (number_of w) nodes) e ∙ sym p.opens in (
      (λ i. record { verdict = e i; count = count i; opened = opened i }),
      q.tells ∙ ap (λ (w : Verdict). rows_after (number_of w) rows lent) e ∙ sym p.tells,
    )

-- ---- what is left

module _ {m n : List ℕ} (alike : Alike m n) (m' n' : List ℕ) where
  same_memory : m' ≡ m → n' ≡ n → Alike m' n'
  same_memory e e' = subst₂ Alike (sym e) (sym e') alike

  after-alike : (w w' : ℕ → Bool) (k : ℕ) (b : Board) (t : Tree) → MemoryAfter w k m m' b t → MemoryAfter w' k n n' b t → Alike m' n'
  unfolding MemoryAfter
  after-alike w w' zero b t a a' = holding-alike a.holding a'.holding
  after-alike w w' (suc k) b t a a' = same_memory a a'

-- ---- the calls

module _ (c d : ℕ) (rows : List InputRow) {m n m' n' : List ℕ} (alike : Alike m n) {v w : Verdict} (p : LoadPromise c d rows m v m') (p' : LoadPromise c d rows n w n') (same : length n ≡ length m) where
  load-alone : w ≡ v
  load-alone = verdict-same w v (p'.said ∙ ap (λ (k : ℕ). load_answer k c d rows) same ∙ sym p.said)

  load-alike : Alike m' n'
  load-alike =
      let after : Verdict → Type 0 = λ u. MemoryAfter (load_writes c) (number_of u) n n' (loaded c d rows) (load_tree d (map move_of rows)) in
      after-alike alike m' n' (load_writes c) (load_writes c) (number_of v) (loaded c d rows) (load_tree d (map move_of rows)) p.left (subst after load-alone p'.left)

module _ {m n : List ℕ} (bytes : Bytes m) (alike : Alike m n) {lent lent' lent'' : List Row} {r s : CallResult} where
  query-alone : (q : Query) → QueryPromise q m lent r lent' → QueryPromise q n lent s lent'' → (s ≡ r) × (lent'' ≡ lent')
  query-alone q p p' =
      by-soundness alike bytes
      (λ k.
      said_same (p.sound k)
      (subst₂ (λ (b : Board) (d : ℕ). QuerySaidOn q b (query_opens d q k.tree) lent s lent'') alike.board (alike-dimension alike) (p'.sound (alike-sound alike k))))
      (λ f f'. said_same (p.unsound f) (p'.unsound f'))

  -- A change, be it made or previewed.
  change-alone : (x : Change) → ChangeSaid x m lent r lent' → ChangeSaid x n lent s lent'' → (s ≡ r) × (lent'' ≡ lent')
  change-alone x p p' =
      by-soundness alike bytes
      (λ k.
      said_same (p.sound k)
      (subst₂ (λ (b : Board) (d : ℕ). ChangeSaidOn x b (change_opens d x k.tree) lent s lent'') alike.board (alike-dimension alike) (p'.sound (alike-sound alike k))))
      (λ f f'. said_same (p.unsound f) (p'.unsound f'))

  module _ (x : Change) {m' n' : List ℕ} (p : ChangePromise x m lent r m' lent') (p' : ChangePromise x n lent s n' lent'') where
    change-alike : Alike m' n'
    change-alike =
        by-soundness alike bytes
        (λ k.
        after-alike alike m' n' (change_writes (size_in m) x) (change_writes (size_in n) x) (number_of r.verdict) (changed (board_in m) x) (change_tree (dimension_in m) x k.tree)
        (p.left k)
        (subst₃
        (λ (v : Verdict) (b : Board) (d : ℕ). MemoryAfter (change_writes (size_in n) x) (number_of v) n n' (changed b x) (change_tree d x k.tree))
        (ap (λ (a : CallResult). a.verdict) (change-alone x p.said p'.said).0) alike.board (alike-dimension alike) (p'.left (alike-sound alike k))))
        (λ f f'. same_memory alike m' n' (p.unsound f) (p'.unsound f'))

-- ---- the whole

-- Equal calls on the two memories, lent equal rows, say and tell the same, and equal changes and loads leave memories that again
-- hold the same: the later calls say the same too. (What a load says depends on how long the memory is, and on none of its bytes.)
pub record SameAnswers (m n : List ℕ) : Type 0 where
  pub loads : (c d : ℕ) (rows : List InputRow) (v w : Verdict) (m' n' : List ℕ) → length n ≡ length m → LoadPromise c d rows m v m' → LoadPromise c d rows n w n'
      → (w ≡ v) × Alike m' n'
  pub queries : (q : Query) (lent lent' lent'' : List Row) (r s : CallResult) → QueryPromise q m lent r lent' → QueryPromise q n lent s lent'' → (s ≡ r) × (lent'' ≡ lent')
  pub previews : (x : Change) (lent lent' lent'' : List Row) (r s : CallResult) → PreviewPromise x m lent r lent' → PreviewPromise x n lent s lent''
      → (s ≡ r) × (lent'' ≡ lent')
  pub changes : (x : Change) (lent lent' lent'' : List Row) (r s : CallResult) (m' n' : List ℕ) → ChangePromise x m lent r m' lent' → ChangePromise x n lent s n' lent''
      → (s ≡ r) × (lent'' ≡ lent') × Alike m' n'

pub alike-answers : (m n : List ℕ) → Bytes m → Alike m n → SameAnswers m n
alike-answers m n bytes alike =
    record {
      loads = λ c d rows v w m' n' same p p'. (load-alone c d rows alike p p' same, load-alike c d rows alike p p' same);
      queries = λ q lent lent' lent'' r s p p'. query-alone bytes alike q p p';
      previews = λ x lent lent' lent'' r s p p'. change-alone bytes alike x p p';
      changes = λ x lent lent' lent'' r s m' n' p p'. let same = change-alone bytes alike x p.said p'.said in (same.0, same.1, change-alike bytes alike x p p');
    }

pub answers-alone : (m n : List ℕ) → Bytes m → SameInUse m n → SameAnswers m n
answers-alone m n bytes same = alike-answers m n bytes (used-alike m n same)

-- Card 2: a preview answers, counts, opens and tells what the call does on the same memory with the same rows lent.
pub preview-equal : (x : Change) (m : List ℕ) → Bytes m → {m' : List ℕ} {lent lent' lent'' : List Row} {r s : CallResult} → PreviewPromise x m lent r lent' → ChangePromise x m lent s m' lent''
    → (r ≡ s) × (lent' ≡ lent'')
preview-equal x m bytes p c = change-alone bytes (same_alike m) x c.said p
