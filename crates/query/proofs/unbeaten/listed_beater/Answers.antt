use native.Mathlib.Omega.{arith}
use Rattle.promises.specs.Run.{Bytes}
use Rattle.search.specs.Search.{None}
use Rattle.search.specs.Laws.Search.{found-none}
use Rattle.query.specs.Unbeaten.{listed_beats}
use Rattle.query.specs.Laws.Unbeaten.{none-beats}
use Rattle.query.proofs.unbeaten.listed_beater.Goals as goal

pub returns : goal.returns
unfolding Bytes
returns c =
    let a = c.args in
    let b = a.listed.now.board in
    record {
      some = record {
        to = omega arith;
        found = λ l. absurd (omega arith);
        none = λ l. none-beats c.requires.sound_at.0 b.fits a.rule a.costs
            (found-none b.head.count (None (listed_beats b.head.size b.head.dimension a.rule b.bytes.now a.costs) 0) c.in_default.is c.loop-found.invariant.0);
      };
      below = tt;
    }
