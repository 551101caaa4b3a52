-- What the objects in memory hold.
use Rattle.std.specs.Prelude.{◌≡◌, ◌⊎◌, ℕ, List, [], ◌∷◌, length, map, min, string_bytes, String, Option, Result, Ok, IfOk, is_err, true, false}
use Rattle.std.specs.Global.{Vec, Global}
use Rattle.cov_base.specs.Plan.{Plan, called, answered, is_due}
use Rattle.cov_base.specs.declared.failed.Failed.{Failed}

-- a source: the bytes still to come, and the most that it hands over in one call
pub record Feed : Type 0 where
  pub left : List ℕ
  pub piece : ℕ

-- a source whose calls fail by a plan
pub record PlannedFeed : Type 0 where
  pub left : List ℕ
  pub piece : ℕ
  pub plan : Plan

-- what a source may hand over into so much room
abbrev pub most_into : List ℕ → ℕ → ℕ → ℕ
most_into left piece room = min (min (length left) piece) room

-- a call of a source that doesn't fail: it hands over all that may be handed over into so much room
pub record Feeds (old : Feed) (room : ℕ) (result : Result ℕ Failed) (new : Feed) : Type 0 where
  pub count : result ≡ Ok (most_into old.left old.piece room)
  pub piece : new.piece ≡ old.piece

-- the same where calls fail by a plan
pub record FeedsByPlan (old : PlannedFeed) (room : ℕ) (result : Result ℕ Failed) (new : PlannedFeed) : Type 0 where
  pub due : is_err result ≡ is_due old.plan
  pub plan : new.plan ≡ called old.plan
  pub count : IfOk result (λ n. n ≡ most_into old.left old.piece room)
  pub piece : new.piece ≡ old.piece

-- a sink: the bytes written, unless memory ran out for them, and the most that it takes in one call
pub record Store : Type 0 where
  pub written : Option (List ℕ)
  pub piece : ℕ

-- a sink whose calls fail by a plan
pub record PlannedStore : Type 0 where
  pub written : List ℕ
  pub piece : ℕ
  pub plan : Plan

-- a call of a sink that doesn't fail: it takes a piece of so many bytes
pub record Takes (old : Store) (bytes : ℕ) (result : Result ℕ Failed) (new : Store) : Type 0 where
  pub count : result ≡ Ok (min old.piece bytes)
  pub piece : new.piece ≡ old.piece

-- the same where calls fail by a plan, and where memory runs out
pub record TakesByPlan (old : PlannedStore) (bytes : ℕ) (result : Result ℕ Failed) (new : PlannedStore) : Type 0 where
  pub due : IfOk result (λ _. is_due old.plan ≡ false)
  pub plan : new.plan ≡ answered result old.plan
  pub count : IfOk result (λ n. n ≡ min old.piece bytes)
  pub piece : new.piece ≡ old.piece

-- a shelf whose calls fail by a plan
pub record PlannedFiles : Type 0 where
  pub files : List (List ℕ × List ℕ)
  pub plan : Plan

-- files as pairs of a name and its bytes
abbrev pub told : List (String Global × Vec ℕ) → List (List ℕ × List ℕ)
told files = map (λ file. (string_bytes file.0, file.1.items)) files

-- a link that doesn't fail
pub record SureWire : Type 0 where
  pub source : Feed
  pub sink : Store

-- a link whose reads and writes fail by plans
pub record PlannedWire : Type 0 where
  pub source : PlannedFeed
  pub sink : PlannedStore

-- a door: the links still to be handed out, and how many were
pub record PlannedLinks : Type 0 where
  pub links : List PlannedWire
  pub handed : ℕ
  pub plan : Plan

-- a call of a door hands out the first link that is left
abbrev pub HandsOut : PlannedLinks → PlannedWire → PlannedLinks → Type 0
HandsOut old link new = (is_due old.plan ≡ false) × (old.links ≡ link ∷ new.links)

-- a call of a door fails, by the plan or since no link is left, and the links stay
abbrev pub HandsOutNone : PlannedLinks → PlannedLinks → Type 0
HandsOutNone old new = (new.links ≡ old.links) × ((is_due old.plan ≡ true) ⊎ (old.links ≡ []))
