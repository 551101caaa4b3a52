-- The asks of callers as asks at a history, and what they come with.
use Rattle.std.specs.Prelude.{◌≡◌, ◌≤◌, ℕ, List, length, take, true}
use Rattle.design_data.specs.declared.design.Design.{Design}
use Rattle.cov_history.specs.declared.entry.Entry.{Entry}
use Rattle.cov_history.specs.declared.entry.Revision.{Revision}
use Rattle.cov_history.specs.declared.asks.Ask.{Ask as At}
use Rattle.cov_history.specs.declared.asks.Ask.TheVariants as at
use Rattle.cov_history.specs.Tables.{fits, same_tables}
use Rattle.cov_history.specs.History.{design_of, contents}
use Rattle.sampler.specs.Preparing.{Whole}
use Rattle.store_core.specs.declared.asks.Ask.{Ask}
use Rattle.store_core.specs.declared.asks.Ask.TheVariants as ask
use Rattle.store_core.specs.Histories.{Declaring}
use Rattle.store_core.specs.Rebins.{Redone}

-- the revision that a text with its design makes
abbrev pub revision_of : Redone → Revision
revision_of r = record { text = r.text; design = r.design }

-- what is asked, apart from what was worked out for it
abbrev pub asked : Ask → At
asked (ask.Hello point) = at.Hello point
asked (ask.Counts first path) = at.Counts first path
asked (ask.Coverage path) = at.Coverage path
asked (ask.Illegal first) = at.Illegal first
asked (ask.Tests first) = at.Tests first
asked (ask.TestCounts first id path) = at.TestCounts first id path
asked ask.Rank = at.Rank
asked (ask.NameOf bin) = at.NameOf bin
asked (ask.Admit since p) = at.Admit since p.of
asked (ask.Exclude path) = at.Exclude path
asked (ask.Include path) = at.Include path
asked (ask.Revise r) = at.Revise r.since (revision_of r)
asked (ask.Fetch place offset) = at.Fetch place offset

-- the record was prepared under the design at this point of the history, and its tables are that design's
pub record IsPrepared (opening : Design) (h : List Entry) (since : ℕ) (p : Whole) : Type 0 where
  pub reached : since ≤ length h
  pub under : p.under ≡ design_of opening (take since h)
  pub fit : fits p.under p.of ≡ true

-- the text was made ready by a basis of this history, declares its design, and that has the opening design's tables
pub record IsReadied (opening : Design) (h : List Entry) (r : Redone) : Type 0 where
  pub reached : r.since ≤ length h
  pub tables : same_tables r.design opening ≡ true
  pub records : r.records ≡ contents (take r.since h)
  pub declared : Declaring r.text r.design

-- what an ask comes with
abbrev pub Meets : (opening : Design) → List Entry → Ask → Type 0
Meets opening h (ask.Admit since p) = IsPrepared opening h since p
Meets opening h (ask.Revise r) = IsReadied opening h r
Meets opening h other = Unit {0}
