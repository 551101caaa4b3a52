-- A file that isn't had stays so when the count of faults is looked at from an earlier time, or at a later one.
use Rattle.std.proofs.Common.{◌≡◌, ◌≤◌, ◌+◌, ◌^◌, ◌-◌, ℕ, List, min, Some, None, inl, inr, arith, subst}
use Rattle.std.proofs.Math.Nat.{min-le_left, min-le_right, le-min}
use Rattle.cov_spec.specs.Causes.{Rose}
use Rattle.cov_base.specs.Loads.{HasLongFile}
use Rattle.cov_ground.specs.Limits.{longest_record}
use Rattle.design_data.specs.declared.design.Design.{Design}
use Rattle.covd_commands.specs.declared.status.Status.{Status}
use Rattle.covd_commands.specs.declared.status.Status.TheVariants as status
use Rattle.vcd_reader.specs.Reading.{longest_dump}
use Rattle.covd_commands.specs.FromFiles.{Files, NotLoaded, HasDesign}
use Rattle.covd_commands.specs.Commands.{Counts, Records}

up_to : (before middle now most : ℕ) → before ≤ middle → min (middle + 1) most ≤ now → min (before + 1) most ≤ now
up_to before middle now most le rose =
    let left : min (before + 1) most ≤ middle + 1 = omega (arith, min-le_left (before + 1) most, le) in
    let less : min (before + 1) most ≤ min (middle + 1) most = le-min left (min-le_right (before + 1) most) in
    omega (arith, less, rose)

rose_more : (before middle now : ℕ) → before ≤ middle → Rose middle now → Rose before now
rose_more before middle now le rose = up_to before middle now (2 ^ 64 - 1) le rose

long_more : (files : Files) (before middle now : ℕ) (name : List ℕ) (most size : ℕ) → before ≤ middle → HasLongFile files middle now name most size → HasLongFile files before now name most size
long_more None before middle now name most size le h = (rose_more before middle now le h.0, h.1)
long_more (Some files) before middle now name most size le h = h

pub not_loaded : (files : Files) (before middle now : ℕ) (name : List ℕ) (most : ℕ) (s : Status) (text : List ℕ) → before ≤ middle → NotLoaded files middle now name most s text → NotLoaded files before now name most s text
not_loaded files before middle now name most status.ShelfFault text le h = (elim h.0 [ inl lacks ↦ inl lacks | inr rose ↦ inr (rose_more before middle now le rose) ], h.1)
not_loaded files before middle now name most status.FileTooLong text le h = (h.0, long_more files before middle now name most h.0 le h.1, h.2)
not_loaded files before middle now name most other text le h = absurd h

-- ---- and when it is looked at at a later time

rose_until : (before now last : ℕ) → now ≤ last → Rose before now → Rose before last
rose_until before now last le rose = omega (arith, le, rose)

long_until : (files : Files) (before now last : ℕ) (name : List ℕ) (most size : ℕ) → now ≤ last → HasLongFile files before now name most size → HasLongFile files before last name most size
long_until None before now last name most size le h = (rose_until before now last le h.0, h.1)
long_until (Some files) before now last name most size le h = h

pub not_loaded_until : (files : Files) (before now last : ℕ) (name : List ℕ) (most : ℕ) (s : Status) (text : List ℕ) → now ≤ last → NotLoaded files before now name most s text → NotLoaded files before last name most s text
not_loaded_until files before now last name most status.ShelfFault text le h = (elim h.0 [ inl lacks ↦ inl lacks | inr rose ↦ inr (rose_until before now last le rose) ], h.1)
not_loaded_until files before now last name most status.FileTooLong text le h = (h.0, long_until files before now last name most h.0 le h.1, h.2)
not_loaded_until files before now last name most other text le h = absurd h

-- ---- what commands answer then

by_record : (files : Files) (before now : ℕ) (design rec : List ℕ) (d : Design) (s : Status) (text : List ℕ) → HasDesign files design d → NotLoaded files before now rec longest_record s text → Counts files before now design rec s text
by_record files before now design rec d status.ShelfFault text has h = inr (d, has, h)
by_record files before now design rec d status.FileTooLong text has h = inr (d, has, h)
by_record files before now design rec d other text has h = absurd h

-- the answer to a design that is had, and a record that isn't
pub no_record_file : (files same : Files) (before middle now : ℕ) (design rec : List ℕ) (d : Design) (s : Status) (text : List ℕ) → same ≡ files → before ≤ middle → HasDesign files design d → NotLoaded same middle now rec longest_record s text → Counts files before now design rec s text
no_record_file files same before middle now design rec d s text is le has h =
    by_record files before now design rec d s text has (not_loaded files before middle now rec longest_record s text le (subst (λ (f : Files). NotLoaded f middle now rec longest_record s text) is h))

by_dump : (files : Files) (before now : ℕ) (design dump scope id : List ℕ) (d : Design) (s : Status) (text : List ℕ) → HasDesign files design d → NotLoaded files before now dump longest_dump s text → Records files before now design dump scope id s text
by_dump files before now design dump scope id d status.ShelfFault text has h = inr (d, has, h)
by_dump files before now design dump scope id d status.FileTooLong text has h = inr (d, has, h)
by_dump files before now design dump scope id d other text has h = absurd h

-- the answer to a design that is had, and a dump that isn't
pub no_dump_file : (files same : Files) (before middle now : ℕ) (design dump scope id : List ℕ) (d : Design) (s : Status) (text : List ℕ) → same ≡ files → before ≤ middle → HasDesign files design d → NotLoaded same middle now dump longest_dump s text
    → Records files before now design dump scope id s text
no_dump_file files same before middle now design dump scope id d s text is le has h =
    by_dump files before now design dump scope id d s text has (not_loaded files before middle now dump longest_dump s text le (subst (λ (f : Files). NotLoaded f middle now dump longest_dump s text) is h))
