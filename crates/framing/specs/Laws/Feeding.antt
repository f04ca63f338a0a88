-- An input taken in parts prints what the whole prints.
use Rattle.std.specs.Prelude.{ℕ, ◌+◌, Bool, true, false, ◌≡◌, length, get_or, drop, Option, Some, None}
use Rattle.std.proofs.Math.Bool.{cond}
use mathlib.Core.List.{List, [], ◌∷◌, ◌++◌, append-nil}
use Rattle.std.proofs.Math.Path.{sym, ap, subst}
use Rattle.std.proofs.Common.{◌∙◌, arith}
use Rattle.std.proofs.Math.ListN.{take}
use Rattle.frame_lines.specs.State.{State}
use Rattle.frame_lines.specs.Lines.{lines_from}
use Rattle.frame_lines.specs.Reading.{Judged, LastLine, ReadOn, taken_of, LineRead}
use Rattle.frame_lines.specs.Laws.Lines.{lines_end, drop_more}
use Rattle.frame_lines.specs.declared.reading.Line.{Line}
use Rattle.frame_lines.specs.declared.reading.Read.{Read}
use Rattle.framing.specs.Session.{answer_to, after, answers_to, printed, output}
use Rattle.framing.specs.Serving.{StateIn, HoldsState, Answers}
use Rattle.framing.specs.Feeding.{At, AtStart, Feeds, Finishes, ProgramRun, feed, read, finish}
use Rattle.framing.specs.declared.serving.Response.{Response}
use Rattle.framing.specs.declared.feeding.Point.{Point}

-- ---- bytes taken

module _ (p : Point) (bytes m : List ℕ) (x : Read) (reads : LineRead p.line bytes x) where
  -- No line ended.
  pub feeds-none : (out : List ℕ) → x.end ≡ None → HoldsState p.dimension m
      → Feeds p bytes m (record { point = record { line = x.line; dimension = p.dimension }; taken = length bytes; answered = 0 }) m out
  unfolding printed taken_of
  feeds-none out e ready =
      let read : ReadOn p.line bytes (length bytes) x.line = subst (λ (o : Option ℕ). ReadOn p.line bytes (taken_of o bytes) x.line) e reads.read in
      record {
        onward = λ s line at.
            record {
              state = s;
              begun = line ++ take (length bytes) bytes;
              at = record { held = at.held; read = read.line line at.read };
              prints = λ more. ap (answers_to s) (read.lines line more);
            };
        taken = read.within;
        some = λ h. h;
        within = omega arith;
        ready = ready;
      }

  -- A line ended, and was answered.
  module _ (n : ℕ) (l : Line) (a : Response) (m' out' : List ℕ) (e : x.end ≡ Some n) (fresh : Judged [] l) (answers : Answers p.dimension x.line m a m' out') where
    read-here : ReadOn p.line bytes n x.line
    unfolding taken_of
    read-here = subst (λ (o : Option ℕ). ReadOn p.line bytes (taken_of o bytes) x.line) e reads.read

    ended-lines : (line more : List ℕ) → lines_from line (bytes ++ more) ≡ (line ++ take n bytes) ∷ lines_from [] (drop (n + 1) bytes ++ more)
    ended-lines line more =
        read-here.lines line more
        ∙ ap (λ (y : List ℕ). lines_from (line ++ take n bytes) (y ++ more)) (drop_more bytes n (reads.ended n e).0)
        ∙ lines_end (line ++ take n bytes) (get_or bytes n 0) (drop (n + 1) bytes ++ more) (reads.ended n e).1

    pub feeds-line : Feeds p bytes m (record { point = record { line = l; dimension = a.dimension }; taken = n + 1; answered = a.answered }) m' out'
    unfolding printed answers_to
    feeds-line =
        record {
          onward = λ s line at.
              let whole = line ++ take n bytes in
              let judged = read-here.line line at.read in
              record {
                state = after s whole;
                begun = [];
                at = record { held = answers.left s whole at.held judged; read = fresh };
                prints = λ more.
                    ap (answers_to s) (ended-lines line more)
                    ∙ ap (λ (y : List ℕ). y ++ answers_to (after s whole) (lines_from [] (drop (n + 1) bytes ++ more)))
                    (sym (answers.text s whole at.held judged));
              };
          taken = omega (arith, (reads.ended n e).0);
          some = λ h. omega arith;
          within = answers.within;
          ready = answers.ready;
        }

-- ---- the end of the input

module _ (p : Point) (m : List ℕ) {r : Bool} (last : LastLine p.line r) where
  pub finishes-none : (out : List ℕ) → r ≡ false → Finishes p m 0 out
  unfolding LastLine printed answers_to
  finishes-none out e =
      record {
        prints = λ s line at.
            ap (answers_to s) (sym (last line at.read ∙ ap (λ (b : Bool). cond b (line ∷ []) []) e));
        within = omega arith;
      }

  pub finishes-line : (a : Response) (m' out' : List ℕ) → r ≡ true → Answers p.dimension p.line m a m' out' → Finishes p m a.answered out'
  unfolding LastLine printed answers_to
  finishes-line a m' out' e answers =
      record {
        prints = λ s line at.
            answers.text s line at.held at.read
            ∙ sym (append-nil (answer_to s line))
            ∙ ap (answers_to s) (sym (last line at.read ∙ ap (λ (b : Bool). cond b (line ∷ []) []) e));
        within = answers.within;
      }

-- ---- a whole input

-- Whatever is held and was read at first: all that is put is what is printed, however the input comes.
pub run-prints : {s : State} {line : List ℕ} {p : Point} {m bytes more text : List ℕ} → At s line p m → ProgramRun p m bytes more text → text ≡ printed s line (bytes ++ more)
run-prints {s} {line} {p} {m} {bytes} {more} at (feed {m' = m'} {out' = out'} {r = r} fed run) =
    let on = fed.onward s line at in
    ap (λ (y : List ℕ). take r.answered out' ++ y) (run-prints on.at run) ∙ sym (on.prints more)
run-prints at (read run) = run-prints at run
run-prints {s} {line} at (finish ends) = ends.prints s line at

pub run-output : {p : Point} {m input text : List ℕ} → AtStart p → ProgramRun p m [] input text → text ≡ output input
unfolding output StateIn
run-output starts run = run-prints (record { held = starts.dimension; read = starts.line }) run
