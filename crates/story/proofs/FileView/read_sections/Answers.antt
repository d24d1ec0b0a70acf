-- `FileView::read_sections`: the first section that does not end well decides. Assumes nothing.
use Rattle.std.proofs.Common.{◌-◌, take, drop}
use Rattle.fields.proofs.Laws.{handed_on}
use Rattle.story.specs.Flows.{flows, part}
use Rattle.story.specs.File.{sections_read}
use Rattle.records.specs.Work.{st, keeping}
use Rattle.story.proofs.SectionWalks.{names-on, names-refused, root-on, root-else}
use Rattle.story.proofs.FileView.read_sections.Goals as goal

pub returns-in_err-read_names : goal.returns-in_err-read_names
unfolding sections_read part
returns-in_err-read_names c =
    let a = c.args in
    let s₀ = st a.out.now 0 in
    rw (handed_on c.from_residual.result c.from_residual.ensures.1) (names-refused keeping s₀ _ _ c.read_names.ensures c.in_err-read_names.was)

pub returns-in_err-read_names-2 : goal.returns-in_err-read_names-2
unfolding sections_read part
returns-in_err-read_names-2 c =
    let a = c.args in
    let s₀ = st a.out.now 0 in
    rw (handed_on c.from_residual-in_err-read_names-2.result c.from_residual-in_err-read_names-2.ensures.1) (rw (names-on keeping s₀ _ _ c.read_names.ensures c.in_ok-read_names.was) (names-refused keeping s₀ _ _ c.read_names-2.ensures c.in_err-read_names-2.was))

pub returns-in_err-m : goal.returns-in_err-m
unfolding sections_read part
returns-in_err-m c =
    let a = c.args in
    let s₀ = st a.out.now 0 in
    rw (handed_on c.from_residual-in_err-m.result c.from_residual-in_err-m.ensures.1) (rw (names-on keeping s₀ _ _ c.read_names.ensures c.in_ok-read_names.was, names-on keeping s₀ _ _ c.read_names-2.ensures c.in_ok-read_names-2.was)
    (rw c.in_err-m.was at (root-else keeping s₀ a.self.now.sections.root a.self.now.sections.flows a.self.now.file.now (flows (take (a.self.now.sections.end - a.self.now.sections.flows) (drop a.self.now.sections.flows a.self.now.file.now))) c.walk_nodes.ensures c.in_err-m.was)))

pub returns : goal.returns
unfolding sections_read part
returns c =
    let a = c.args in
    let s₀ = st a.out.now 0 in
    rw (names-on keeping s₀ _ _ c.read_names.ensures c.in_ok-read_names.was, names-on keeping s₀ _ _ c.read_names-2.ensures c.in_ok-read_names-2.was, root-on keeping s₀ a.self.now.sections.root a.self.now.sections.flows a.self.now.file.now (flows (take (a.self.now.sections.end - a.self.now.sections.flows) (drop a.self.now.sections.flows a.self.now.file.now))) c.walk_nodes.ensures c.in_ok-m.m c.in_ok-m.was)
    c.read_flows.ensures
