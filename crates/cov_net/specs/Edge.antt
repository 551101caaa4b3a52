-- An end of the outside: a stream, and how often a call on it failed.
use Rattle.std.specs.Prelude.{ℕ, refl}
use Rattle.std.specs.Coded.{Coded, code_by, coded×, coded_ℕ}

pub record Edge (S : Type 0) : Type 0 where
  pub inner : S
  pub faults : ℕ

-- it is stored as the pair of its fields
abbrev pub edge_code : {S : Type 0} → Coded S → Coded (Edge S)
edge_code {S} code = code_by (S × ℕ) (coded× code coded_ℕ) (λ e. (e.inner, e.faults)) (λ p. record { inner = p.0; faults = p.1 }) (λ _. refl)

-- A connection: a stream both ways, and how often a read and a write on it failed.
pub record Wire (S : Type 0) : Type 0 where
  pub inner : S
  pub read_faults : ℕ
  pub write_faults : ℕ

-- it is stored as the pairs of its fields
abbrev pub wire_code : {S : Type 0} → Coded S → Coded (Wire S)
wire_code {S} code = code_by (S × (ℕ × ℕ)) (coded× code (coded× coded_ℕ coded_ℕ)) (λ w. (w.inner, (w.read_faults, w.write_faults))) (λ p. record { inner = p.0; read_faults = p.1.0; write_faults = p.1.1 }) (λ _. refl)

-- A place where connections come from: how many it has handed out, and how often it failed.
pub record Entrance : Type 0 where
  pub handed : ℕ
  pub faults : ℕ
