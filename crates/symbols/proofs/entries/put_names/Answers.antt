-- `symbols::entries::put_names` meets its contract. The loop's invariant: what is left to be visited are the names that are left. Assumes nothing.
use Rattle.std.proofs.Common.{refl, arith, [], ◌∷◌}
use Rattle.searches.proofs.Names.{left-in}
use Rattle.symbols.proofs.Visiting.{visiting-parts, visiting-end, visiting-ready, visiting-many}
use Rattle.symbols.proofs.Named.{alone_at, names-none, names-front}
use Rattle.symbols.proofs.entries.put_names.Goals as goal

pub loop-name-init : goal.loop-name-init
loop-name-init g c =
    rw c.into_iter-name-iterator.ensures.into_iter_gives (record { inside = left-in c.args.names; left = visiting-parts g.met.V.Visit.laws refl c.requires.ready })

pub overflow_cast-p : goal.overflow_cast-p
overflow_cast-p g c = omega (arith, (rw c.in-Some.ensures.steps at c.loop-name.invariant.inside).0, c.requires.short)

pub visit-requires : goal.visit-requires
visit-requires g c =
    visiting-ready g.met.V.Visit.laws c.loop-name.invariant.left (alone_at c.in-Some.name.at ∷ []) _ (names-front c.in-Some.ensures.steps) c.requires.ready

pub loop-name-preserved : goal.loop-name-preserved
loop-name-preserved g c = record {
  inside = (rw c.in-Some.ensures.steps at c.loop-name.invariant.inside).2;
  left = visiting-many g.met.V.Visit.laws c.loop-name.invariant.left (names-front c.in-Some.ensures.steps) c.visit.ensures;
}

pub returns : goal.returns
returns g c = visiting-end g.met.V.Visit.laws c.loop-name.invariant.left (names-none c.in-None.ensures.steps.0)
