-- What is heard at one thing, by the rules of a bracket; and a thing is like what it is kept for. Assumes nothing.
use mathlib.Core.Path.{◌≡◌, refl, sym, ap, ◌∙◌}
use mathlib.Core.Bool.{Bool}
use mathlib.Core.List.{List, [], ◌∷◌}
use mathlib.Core.Logic.{◌⊎◌, inl, inr}
use Prim.Native.Nat.{ℕ}
use native.Mathlib.Omega.{arith}
use Rattle.names.specs.Words.{Bytes, only, each}
use Rattle.names.specs.Counted.{name_at}
use Rattle.records.specs.declared.sorts.Sort.{Sort as Kind}
use Rattle.records.specs.declared.sorts.Sort.TheVariants.{Plain as plain, Temp as temp, Divert as divert, Tunnel as tunnel, Thread as thread, Call as call, Variable as variable, Argument as argument, Choice as choice, Gather as gather, Parameter as parameter, StitchName as stitch_name, FlowStart as flow_start}
use Rattle.records.specs.Items.{code, What}
use Rattle.rules.specs.declared.Rule.{Rule}
use Rattle.rules.specs.declared.Rule.TheVariants.{FunctionDivertedTo, TargetNotFound, FlowCalled, NameIsFunction, NameIsGlobal, TempIsParameter, TempIsLabel, ParameterUnmarked, ParameterAlreadyMarked, GatherRepeated, ChoiceUndiverted, FunctionWithStitches, FunctionWithChoice, FunctionWithDivert, VariableForbidden}
use Rattle.rules.specs.Rules.{Known, Here, broken}
use Rattle.rules.specs.Steps.{Breach, names_of}
use Rattle.broken.specs.declared.Thing.{Thing}
use Rattle.broken.specs.Things.{ThingIs}
use Rattle.steps.specs.Heard.{breach_of, Heard, hear_all}
use Rattle.steps.specs.Visits.{LikeThing}
use Rattle.steps.proofs.Hearing.{hear-append, all-instance}

-- 1. A thing by another name

-- the same but for its name
abbrev pub renamed : Bytes → What → What
renamed n w = record { kind = w.kind; name = n; labels = w.labels; branch = w.branch; leaves = w.leaves }

-- a choice, or not
is-choice : (k : Kind) → (k ≡ choice) ⊎ (k ≡ choice → ⊥)
is-choice plain = inr (λ e. omega (arith, ap code e))
is-choice temp = inr (λ e. omega (arith, ap code e))
is-choice divert = inr (λ e. omega (arith, ap code e))
is-choice tunnel = inr (λ e. omega (arith, ap code e))
is-choice thread = inr (λ e. omega (arith, ap code e))
is-choice call = inr (λ e. omega (arith, ap code e))
is-choice variable = inr (λ e. omega (arith, ap code e))
is-choice argument = inr (λ e. omega (arith, ap code e))
is-choice choice = inl refl
is-choice gather = inr (λ e. omega (arith, ap code e))
is-choice parameter = inr (λ e. omega (arith, ap code e))
is-choice stitch_name = inr (λ e. omega (arith, ap code e))
is-choice flow_start = inr (λ e. omega (arith, ap code e))

module _ (k : Known) (h : Here) (before : List What) where
  -- no rule asks for the name of a choice
  choice-renamed : (r : Rule) (a b : Bytes) (labels branch leaves : Bool)
      → broken k h before r (record { kind = choice; name = a; labels = labels; branch = branch; leaves = leaves })
      ≡ broken k h before r (record { kind = choice; name = b; labels = labels; branch = branch; leaves = leaves })
  unfolding broken
  choice-renamed FunctionDivertedTo a b labels branch leaves = refl
  choice-renamed TargetNotFound a b labels branch leaves = refl
  choice-renamed FlowCalled a b labels branch leaves = refl
  choice-renamed NameIsFunction a b labels branch leaves = refl
  choice-renamed NameIsGlobal a b labels branch leaves = refl
  choice-renamed TempIsParameter a b labels branch leaves = refl
  choice-renamed TempIsLabel a b labels branch leaves = refl
  choice-renamed ParameterUnmarked a b labels branch leaves = refl
  choice-renamed ParameterAlreadyMarked a b labels branch leaves = refl
  choice-renamed GatherRepeated a b labels branch leaves = refl
  choice-renamed ChoiceUndiverted a b labels branch leaves = refl
  choice-renamed FunctionWithStitches a b labels branch leaves = refl
  choice-renamed FunctionWithChoice a b labels branch leaves = refl
  choice-renamed FunctionWithDivert a b labels branch leaves = refl
  choice-renamed VariableForbidden a b labels branch leaves = refl

  -- by the name that the file has, no rule is broken otherwise
  pub broken-like : {file : List ℕ} {t : Thing} {w : What} → LikeThing file t w → (r : Rule) → broken k h before r w ≡ broken k h before r (renamed (name_at file t.name) w)
  broken-like {file} {t} {w} l r = by_kind (is-choice w.kind)
    where
      by_kind : (w.kind ≡ choice) ⊎ (w.kind ≡ choice → ⊥) → broken k h before r w ≡ broken k h before r (renamed (name_at file t.name) w)
      by_kind (inl e) =
          ap (λ (q : Kind). broken k h before r (record { kind = q; name = w.name; labels = w.labels; branch = w.branch; leaves = w.leaves })) e
          ∙ choice-renamed r w.name (name_at file t.name) w.labels w.branch w.leaves
          ∙ sym (ap (λ (q : Kind). broken k h before r (record { kind = q; name = name_at file t.name; labels = w.labels; branch = w.branch; leaves = w.leaves })) e)
      by_kind (inr z) = ap (λ (n : Bytes). broken k h before r (renamed n w)) (l.named z)

  -- what a rule answers of a thing, it answers of what the thing is like
  pub like-broken : {file : List ℕ} {t : Thing} {w : What} → LikeThing file t w → (r : Rule) {b : Bool} → ((v : What) → ThingIs file t v → b ≡ broken k h before r v) → b ≡ broken k h before r w
  like-broken {file} {t} {w} l r e =
      e (renamed (name_at file t.name) w) (record { sort = l.sort; named = refl; branch = l.branch; leaves = l.leaves }) ∙ sym (broken-like l r)

-- 2. Rules one after the other

-- the breach of a rule by its test
abbrev pub ruled : (Rule → Bool) → ℕ → ℕ → ℕ → ℕ → Rule → List Breach
ruled test instance place flow own r = only (test r) (breach_of instance r place (names_of r flow own))

-- what all rules find is to be heard where what those that are left find is: so far this was heard
pub record RulesLeft (test : Rule → Bool) (place flow own : ℕ) (rs : List Rule) (start h : Heard) (left : List Rule) : Type 0 where
  pub instance : h.tally.instance ≡ start.tally.instance
  pub to-come : hear_all start (each (ruled test start.tally.instance place flow own) rs) ≡ hear_all h (each (ruled test start.tally.instance place flow own) left)

-- before the first
pub rules-start : (test : Rule → Bool) (place flow own : ℕ) (rs : List Rule) (h : Heard) → RulesLeft test place flow own rs h h rs
rules-start test place flow own rs h = record { instance = refl; to-come = refl }

module _ {test : Rule → Bool} {place flow own : ℕ} {rs : List Rule} {start h : Heard} {left : List Rule} (u : RulesLeft test place flow own rs start h left) where
  -- the next was heard by its test
  pub rules-next : {r : Rule} {more : List Rule} {b : Bool} {g : Heard} → left ≡ r ∷ more → b ≡ test r
      → g ≡ hear_all h (only b (breach_of h.tally.instance r place (names_of r flow own))) → RulesLeft test place flow own rs start g more
  rules-next {r} {more} {b} e f p =
      let at : Breach = breach_of start.tally.instance r place (names_of r flow own) in
      let same : only b (breach_of h.tally.instance r place (names_of r flow own)) ≡ only (test r) at = rw (f, u.instance) in
      record {
        instance = ap (λ (x : Heard). x.tally.instance) p ∙ all-instance h (only b (breach_of h.tally.instance r place (names_of r flow own))) ∙ u.instance;
        to-come = u.to-come
            ∙ rw e (hear-append h (only (test r) at) (each (ruled test start.tally.instance place flow own) more)
            ∙ ap (λ (x : Heard). hear_all x (each (ruled test start.tally.instance place flow own) more)) (sym (p ∙ ap (hear_all h) same)));
      }

  -- none is left
  pub rules-end : left ≡ [] → h ≡ hear_all start (each (ruled test start.tally.instance place flow own) rs)
  unfolding hear_all
  rules-end e = sym (u.to-come ∙ rw e)
