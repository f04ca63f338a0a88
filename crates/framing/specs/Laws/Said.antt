-- The text of what a call says, from its pieces.
use Rattle.std.specs.Prelude.{ℕ, ◌+◌, ◌<◌, Bool, cond, ◌≡◌, refl, eqb, set}
use mathlib.Core.List.{List, [], ◌∷◌, ◌++◌, flat_map, append_assoc}
use Rattle.std.proofs.Math.Path.{sym, ap₂}
use Rattle.std.proofs.Common.{ap, ◌∙◌, eq-eqb, ne_eqb, eqb-true, arith}
use Rattle.std.proofs.Math.ListN.{length, length-append}
use Rattle.model.specs.Calls as calls
use Rattle.model.proofs.Laws.Bool.{test_cases}
use Rattle.promises.specs.Answers.{Verdict, number_of, detail_of, answer_of}
use Rattle.frame_lines.specs.Text.{byte_text, word_text, row_text, rows_text, Reply, refused, notice, listed, said_text, answer_text, line_end}
use Rattle.frame_lines.specs.Put.{TextPut, head_text}
use Rattle.frame_lines.specs.Laws.Put.{put_one, put_both, put_as}
use Rattle.frame_lines.specs.Laws.Texts.{word_text-length, head-length}
use Rattle.framing.specs.Session.{said_by}
use Rattle.rows.specs.declared.plan.Plan.{Plan}
use Rattle.rows.specs.declared.telling.Telling.{Telling}
use Rattle.planning.specs.Plan.{left_of, entered_of}
use Rattle.planning.specs.declared.plan.ChangePlan.{ChangePlan}
use Rattle.framing.specs.Writing.{telling_rows, TextRoom, ListRoom, ChangeRoom, list_said, change_said}
use Rattle.framing.specs.Laws.Rows.{flat_map-append}
use Rattle.framing.specs.Laws.Told.{telling-count, telling-most, room_at}

pub refused-text : (d : ℕ) (v : Verdict) (s : Reply) {n k : ℕ} → n ≡ number_of v → k ≡ detail_of v → 0 < number_of v → answer_text 0 (refused n k) ≡ answer_text d (said_by (answer_of v) s)
unfolding answer_text said_text said_by
refused-text d v s number detail refuses =
    ap₂ (λ (n k : ℕ). answer_text d (refused n k)) number detail
    ∙ ap (λ (b : Bool). answer_text d (cond b s (refused (number_of v) (detail_of v))))
    (sym (ne_eqb (number_of v) 0 (λ z. omega (arith, refuses, z))))

pub accepted-text : (d : ℕ) (v : Verdict) (s : Reply) → number_of v ≡ 0 → answer_text d s ≡ answer_text d (said_by (answer_of v) s)
unfolding said_by
accepted-text d v s accepts =
    ap (λ (b : Bool). answer_text d (cond b s (refused (number_of v) (detail_of v)))) (sym (eq-eqb (number_of v) 0 accepts))

-- Where no row is told, 0 and a detail of 0 are the text of an accepted call.
pub none-text : (d : ℕ) (a : calls.Answer) → a.detail ≡ 0 → answer_text 0 (refused a.number a.detail) ≡ answer_text d (said_by a (notice []))
unfolding said_by answer_text said_text byte_text word_text rows_text flat_map
none-text d a none =
    test_cases (λ (b : Bool). answer_text 0 (refused a.number a.detail) ≡ answer_text d (cond b (notice []) (refused a.number a.detail)))
    (eqb a.number 0)
    (λ e. ap₂ (λ (n k : ℕ). answer_text d (refused n k)) (eqb-true a.number 0 e) none)
    (λ _. refl)

-- ---- an accepted list: there is room for each piece, and together they are its text

module _ {d : ℕ} {p : Plan} {m out : List ℕ} (room : ListRoom d p m out) {begun opened : List ℕ} {i j : ℕ}
    (head : TextPut (head_text 0 p.need) out 0 begun i) (nodes : TextPut (word_text p.opened) begun i opened j)
  where
    pub list-rows : TextRoom d j p.telling m opened
    list-rows =
        room_at p.telling m room.rows refl
        (omega (arith, head.next, nodes.next, head-length 0 p.need, word_text-length p.opened))
        (nodes.kept ∙ head.kept)

    module _ {told : List ℕ} {k : ℕ} (rows : TextPut (rows_text d (telling_rows p.telling m)) opened j told k) where
      pub list-end : k < length told
      list-end = omega (arith, list-rows.room, rows.next, rows.kept, telling-most p.telling m list-rows)

      pub list_put : number_of p.verdict ≡ 0 → TextPut (answer_text d (list_said p m)) out 0 (set told k line_end) (k + 1)
      unfolding head_text answer_text said_text list_said
      list_put accepts =
          put_as
          (ap (λ (n : ℕ). ((head_text 0 n ++ word_text p.opened) ++ rows_text d (telling_rows p.telling m)) ++ line_end ∷ [])
          (room.need accepts ∙ sym (telling-count p.telling m room.rows))
          ∙ accepted-text d p.verdict (listed p.opened (telling_rows p.telling m)) accepts)
          (put_both (put_both (put_both head nodes) rows) (put_one told k line_end list-end))

-- ---- an accepted change

module _ {d : ℕ} {p : ChangePlan} {m out : List ℕ} (room : ChangeRoom d p m out) {begun : List ℕ} {i : ℕ} (head : TextPut (head_text 0 p.need) out 0 begun i) where
  pub left-rows : {t : Telling} → t ≡ left_of p → TextRoom d i t m begun
  left-rows same = room_at (left_of p) m room.leaves same (omega (arith, head.next, head-length 0 p.need)) head.kept

  module _ {gone : List ℕ} {j : ℕ} (lefts : TextPut (rows_text d (telling_rows (left_of p) m)) begun i gone j) where
    pub entered-rows : {t : Telling} → t ≡ entered_of p → TextRoom d j t m gone
    entered-rows same =
        room_at (entered_of p) m room.enters same
        (omega (arith, head.next, lefts.next, head-length 0 p.need, telling-most (left_of p) m room.leaves))
        (lefts.kept ∙ head.kept)

    module _ {told : List ℕ} {k : ℕ} (entereds : TextPut (rows_text d (telling_rows (entered_of p) m)) gone j told k) where
      pub change-end : k < length told
      change-end =
          let rest = entered-rows refl in
          omega (arith, rest.room, entereds.next, entereds.kept, telling-most (entered_of p) m rest)

      pub change-put : number_of p.verdict ≡ 0 → TextPut (answer_text d (change_said p m)) out 0 (set told k line_end) (k + 1)
      unfolding head_text answer_text said_text rows_text change_said
      change-put accepts =
          let ls = telling_rows (left_of p) m in
          let es = telling_rows (entered_of p) m in
          let all : p.need ≡ length (ls ++ es) = omega (arith, room.need accepts, length-append ls es, telling-count (left_of p) m room.leaves, telling-count (entered_of p) m room.enters) in
          put_as
          (ap (λ (l : List ℕ). l ++ line_end ∷ []) (append_assoc (head_text 0 p.need) (rows_text d ls) (rows_text d es))
          ∙ ap₂ (λ (n : ℕ) (l : List ℕ). (head_text 0 n ++ l) ++ line_end ∷ []) all (sym (flat_map-append (row_text d) ls es))
          ∙ accepted-text d p.verdict (notice (ls ++ es)) accepts)
          (put_both (put_both (put_both head lefts) entereds) (put_one told k line_end change-end))
