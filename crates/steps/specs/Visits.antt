-- Inner contract. What a step visits: a thing as the code has it, and the breaches found there. Assumes nothing.
use Rattle.story.specs.declared.Sections.{Sections}
use Rattle.std.specs.Prelude.{ℕ, ◌+◌, ◌≡◌, List}
use Rattle.names.specs.Words.{only, each}
use Rattle.names.specs.Counted.{name_at}
use Rattle.records.specs.declared.sorts.Sort.TheVariants.{Choice as choice}
use Rattle.records.specs.Items.{What, Item, name_start}
use Rattle.records.specs.Numbers.{place_in, sort_in, branch_in, leaves_in}
use Rattle.rules.specs.declared.Rule.{Rule}
use Rattle.rules.specs.Rules.{broken}
use Rattle.rules.specs.Steps.{Breach, names_of}
use Rattle.broken.specs.declared.At.{At}
use Rattle.broken.specs.declared.Site.{Site}
use Rattle.broken.specs.declared.Thing.{Thing}
use Rattle.broken.specs.Scopes.{known_in, here_in, before_at}
use Rattle.steps.specs.declared.visits.Visit.{Visit}
use Rattle.steps.specs.Heard.{breach_of}

-- the thing is of the sort, stands and leaves so, and, where it is no choice, bears the name that the file has at its place: a choice may have none
pub record LikeThing (file : List ℕ) (t : Thing) (w : What) : Type 0 where
  pub sort : w.kind ≡ t.sort
  pub named : (w.kind ≡ choice → ⊥) → w.name ≡ name_at file t.name
  pub branch : w.branch ≡ t.branch
  pub leaves : w.leaves ≡ t.leaves

-- the item, where it is no choice, bears the name that the file has at its place
abbrev pub BearsName : List ℕ → Item → Type 0
BearsName file i = (i.what.kind ≡ choice → ⊥) → i.what.name ≡ name_at file i.named

-- the thing of a kept item
abbrev pub thing_of : ℕ → Thing
thing_of x = record { sort = sort_in x; name = place_in x + (5 + name_start (sort_in x)); branch = branch_in x; leaves = leaves_in x }

-- the site with the gathers in the set up to the item of this number
abbrev pub site_at : Site → ℕ → Site
site_at s gathers = record {
  scope = s.scope;
  rests = record { labels = s.rests.labels; temps = s.rests.temps; own = s.rests.own; gathers = gathers };
}

-- the thing there, before which so many items stand
abbrev pub at_item : Site → ℕ → Thing → ℕ → At
at_item s gathers thing number = record { site = site_at s gathers; thing = thing; number = number }

-- the breaches at what is visited, by the rules
abbrev pub found : Sections → List ℕ → List ℕ → Visit → List Rule → What → List Breach
found sections file kept v rs w =
    each
    (λ (r : Rule). only
    (broken (known_in sections file) (here_in file kept v.at.site.scope) (before_at file kept v.at) r w)
    (breach_of v.tally.instance r v.place (names_of r v.at.site.scope.flow v.named)))
    rs
