-- One step along the items of a body, item after item. Assumes nothing.
use mathlib.Core.Path.{◌≡◌, refl, sym, ap, ◌∙◌}
use mathlib.Core.Bool.{Bool, true, false}
use mathlib.Core.List.{List, [], ◌∷◌}
use Prim.Native.Nat.{ℕ, ◌+◌, ◌≤◌, ◌<◌}
use native.Mathlib.Omega.{arith}
use lib.ListN.{length, get_or, take}
use Rattle.story.specs.declared.Sections.{Sections}
use Rattle.names.specs.Words.{only, each}
use Rattle.records.specs.Items.{What}
use Rattle.records.specs.Numbers.{item_in}
use Rattle.story.specs.Story.{Story, whats}
use Rattle.items.specs.declared.named.Sought.TheVariants as sought
use Rattle.items.specs.Bodies.{kept_story, Kept}
use Rattle.items.proofs.Numbered.{items-length, item-there}
use Rattle.sets.specs.Members.{MembersPut}
use Rattle.sets.proofs.Passing.{members-same}
use Rattle.rules.specs.declared.Rule.{Rule}
use Rattle.rules.specs.Rules as rules
use Rattle.rules.specs.Steps as steps
use Rattle.broken.specs.Scopes.{body_run, BodySet, Ready}
use Rattle.steps.specs.declared.Tally.{Tally}
use Rattle.steps.specs.declared.nodes.Turn.{Turn}
use Rattle.steps.specs.Heard.{is_full, passed, breach_of, Heard, heard, hear_all, pass, run_now, hear_runs}
use Rattle.steps.specs.Brackets.{step_of, on_gathers}
use Rattle.steps.specs.Visits.{LikeThing, thing_of, site_at, found}
use Rattle.steps.specs.Turns.{ScopeIs, turn_items, turn_run, visit_of}
use Rattle.steps.proofs.Hearing.{passed-full}
use Rattle.steps.proofs.Runs.{runs-one}
use Rattle.steps.proofs.Visiting.{Along, along-start, along-end, along-full, along-next}
use Rattle.steps.proofs.Bearing.{run-bears, like-thing}

-- what is found at an item, by the numbers at hand, is what the rules find there
pub visit-found : (s : Story) (u : steps.Numbered steps.Run) (v : steps.Visit) {h : rules.Here} {instance place flow own : ℕ} {rs : List Rule}
    → rules.here s u.it.scope ≡ h → instance ≡ u.no → place ≡ v.item.place → steps.flow_named u.it.scope ≡ flow → own ≡ v.item.named → rs ≡ steps.bracket u.it.step
    → each (λ (r : Rule). only (rules.broken (rules.known s) h v.before r v.item.what) (breach_of instance r place (steps.names_of r flow own))) rs ≡ steps.in_visit s u v
visit-found s u v a b c d e f = rw (← a, b, c, ← d, e, f)

-- the first i items were visited: what the body's set has, whether it stayed, and what is heard
pub record Turning (sections : Sections) (file kept : List ℕ) (t : Turn) (body₀ list₀ body list : List ℕ) (tally : Tally) (gathers i : ℕ) : Type 0 where
  pub set : BodySet file kept (site_at t.site gathers) i body
  pub stays : on_gathers (step_of t.step) ≡ false → body ≡ body₀
  pub along : (s : rules.Scope) → ScopeIs file kept sections t.site.scope s
      → Along (kept_story sections file) (run_now (heard t.tally list₀) (turn_run file kept t s)) (turn_items file kept t) (heard t.tally list₀) (heard tally list) i

module _ {file kept knot body : List ℕ} {t : Turn} (ready : Ready file kept knot body t.site 0) where
  -- no item was visited
  pub turning-start : {sections : Sections} (list : List ℕ) → Turning sections file kept t body list body list t.tally t.site.rests.gathers 0
  turning-start {sections} list = record {
    set = record { temps = ready.body_set.temps; gathers = ready.body_set.gathers };
    stays = λ l. refl;
    along = λ s h. along-start (kept_story sections file) (run_now (heard t.tally list) (turn_run file kept t s)) (turn_items file kept t) (heard t.tally list);
  }

  -- all that a rule may ask at the next item is ready
  pub turning-ready : {sections : Sections} {list₀ body' list : List ℕ} {tally : Tally} {gathers i : ℕ} → Turning sections file kept t body list₀ body' list tally gathers i
      → Ready file kept knot body' (site_at t.site gathers) i
  turning-ready u = record {
    scope_ready = ready.scope_ready;
    knot_set = record { labels = ready.knot_set.labels; temps = ready.knot_set.temps };
    body_set = u.set;
  }

module _ {sections : Sections} {file kept : List ℕ} {t : Turn} {body₀ list₀ body list : List ℕ} {tally : Tally} {gathers i : ℕ} (u : Turning sections file kept t body₀ list₀ body list tally gathers i) where
  -- the next item was visited and passed
  module _ (k : Kept file sections kept) (l : i < length (body_run kept t.site.scope)) {rs : List Rule} (e : rs ≡ steps.bracket (step_of t.step)) where
    pub turning-next : {body' list' : List ℕ} {tally' : Tally} {gathers' : ℕ}
        → ((w : What) → LikeThing file (thing_of (get_or (body_run kept t.site.scope) i 0)) w
        → heard tally' list' ≡ hear_all (heard tally list) (found sections file kept (visit_of t tally gathers i (get_or (body_run kept t.site.scope) i 0)) rs w))
        → MembersPut sought.Gather file 2 (body_run kept t.site.scope) (i + 1) body body' gathers'
        → (on_gathers (step_of t.step) ≡ false → body' ≡ body)
        → Turning sections file kept t body₀ list₀ body' list' tally' gathers' (i + 1)
    unfolding item_in
    turning-next heard-there put stay =
        let run = body_run kept t.site.scope in
        let x = get_or run i 0 in
        record {
          set = record { temps = members-same u.set.temps (put.others 1 (λ z. omega arith)) put.members.reachable; gathers = put.members };
          stays = λ m. stay m ∙ u.stays m;
          along = λ s h. along-next (u.along s h) (item-there file run l)
              (heard-there (item_in file x).what (like-thing file x (run-bears k t.site.scope.first t.site.scope.last l))
              ∙ ap (hear_all (heard tally list))
              (visit-found (kept_story sections file) (run_now (heard t.tally list₀) (turn_run file kept t s)) (record { item = item_in file x; before = take i (whats (turn_items file kept t)) })
              h.names (u.along s h).instance refl h.flow refl e));
        }

  module _ (s : rules.Scope) (h : ScopeIs file kept sections t.site.scope s) where
    -- no item is left
    pub turning-end : length (body_run kept t.site.scope) ≤ i → {r : Tally} → r ≡ passed 1 tally
        → heard r list ≡ hear_runs (kept_story sections file) (heard t.tally list₀) (turn_run file kept t s ∷ [])
    turning-end l e =
        ap (λ (x : Tally). heard x list) e
        ∙ ap (λ (g : Heard). pass 1 g) (along-end (u.along s h) (omega (arith, items-length file (body_run kept t.site.scope))))
        ∙ sym (runs-one (kept_story sections file) (heard t.tally list₀) (turn_run file kept t s))

    -- no more is heard
    pub turning-full : {b : Bool} → b ≡ is_full tally → b ≡ true
        → heard tally list ≡ hear_runs (kept_story sections file) (heard t.tally list₀) (turn_run file kept t s ∷ [])
    turning-full e f =
        ap (λ (x : Tally). heard x list) (sym (passed-full tally (sym e ∙ f) 1))
        ∙ ap (λ (g : Heard). pass 1 g) (along-full (u.along s h) (sym e ∙ f))
        ∙ sym (runs-one (kept_story sections file) (heard t.tally list₀) (turn_run file kept t s))
