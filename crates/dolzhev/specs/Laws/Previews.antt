-- Card 2, of the exported calls: a preview answers, counts, opens and tells what its call does on the same memory with the same rows
-- lent.
use Rattle.std.specs.Prelude.{ℕ, List, ◌≡◌}
use Rattle.std.proofs.Common.{sym, ap, ◌∙◌}
use Rattle.model.specs.Moves.{Row}
use Rattle.model.specs.Calls.{Change}
use Rattle.promises.specs.Answers.{number_of, detail_of}
use Rattle.promises.specs.Run.{Bytes}
use Rattle.promises.specs.declared.CallResult as said
use Rattle.soundness.specs.Laws.Answers.{preview-equal}
use Rattle.calls.specs.Exported.{Handed, ChangeExported, PreviewExported}
use Rattle.calls.specs.declared.answer.Answer.{Answer}

-- The same handed on is the same.
handed-same : {a b : said.CallResult} {r s : Answer} → a ≡ b → Handed a.verdict a.count a.opened r → Handed b.verdict b.count b.opened s → r ≡ s
handed-same e h k =
    let refusal = h.refusal ∙ ap (λ (a : said.CallResult). number_of a.verdict) e ∙ sym k.refusal in
    let detail = h.detail ∙ ap (λ (a : said.CallResult). detail_of a.verdict) e ∙ sym k.detail in
    let count = h.count ∙ ap (λ (a : said.CallResult). a.count) e ∙ sym k.count in
    let opened = h.opened ∙ ap (λ (a : said.CallResult). a.opened) e ∙ sym k.opened in
    (λ i. record { refusal = refusal i; detail = detail i; count = count i; opened = opened i })

pub exported-equal : (x : Change) (m : List ℕ) → Bytes m → {m' : List ℕ} {lent lent' lent'' : List Row} {r s : Answer}
    → PreviewExported x m lent r lent' → ChangeExported x m lent s m' lent'' → (r ≡ s) × (lent' ≡ lent'')
exported-equal x m bytes p c =
    let same = preview-equal x m bytes p.promise c.promise in
    (handed-same same.0 p.handed c.handed, same.1)
