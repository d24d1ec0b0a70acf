-- What reading yields: the records met, front to back, and how reading ended. Places are relative to the bytes read.
use Rattle.std.specs.Prelude.{ℕ, ◌+◌, List, [], ◌∷◌}
use Rattle.fields.specs.declared.Role.{Role}
use Rattle.fields.specs.declared.Refusal.{Refusal}

-- `emit role kind place payload t`: a record, then t
pub data Trace : Type 0 where
  done : Trace
  refuse : Refusal → Trace
  emit : Role → ℕ → ℕ → List ℕ → Trace → Trace

-- t, and u after it if t ended well
unfoldable pub and_then : Trace → Trace → Trace
and_then done u = u
and_then (refuse r) u = refuse r
and_then (emit role kind p bs t) u = emit role kind p bs (and_then t u)

-- every place k further
unfoldable pub shift : ℕ → Trace → Trace
shift k done = done
shift k (refuse r) = refuse r
shift k (emit role kind p bs t) = emit role kind (k + p) bs (shift k t)

-- a record: where it stands, its kind, the place of its kind byte, its payload
pub record Record : Type 0 where
  pub role : Role
  pub kind : ℕ
  pub place : ℕ
  pub payload : List ℕ

-- the records of a trace whose bytes stand at b
unfoldable pub met : ℕ → Trace → List Record
met b done = []
met b (refuse r) = []
met b (emit role kind p bs t) = record { role = role; kind = kind; place = b + p; payload = bs } ∷ met b t

-- a record whose bytes stand a further
unfoldable pub moved : ℕ → Record → Record
moved a r = record { role = r.role; kind = r.kind; place = a + r.place; payload = r.payload }

-- how reading ended
pub data Ending : Type 0 where
  well : Ending
  refused : Refusal → Ending

-- the ending of a trace
unfoldable pub ends : Trace → Ending
ends done = well
ends (refuse r) = refused r
ends (emit role kind p bs t) = ends t
