-- What the commands over a design alone answer.
use Rattle.std.specs.Prelude.{◌≡◌, ℕ, List, [], ◌∷◌, codes, bytes_eq, Option, Some, None, if◌then◌else◌}
use Rattle.cov_ground.specs.Limits.{longest_design}
use Rattle.design_data.specs.declared.design.Design.{Design}
use Rattle.covd_commands.specs.declared.listing.Listing.{Listing}
use Rattle.covd_commands.specs.declared.listing.Listing.TheVariants.{Bins, Tables}
use Rattle.covd_commands.specs.declared.status.Status.{Status}
use Rattle.covd_commands.specs.declared.status.Status.TheVariants as status
use Rattle.covd_commands.specs.Lines.{check_text}
use Rattle.covd_commands.specs.DesignTables.{tables_text}
use Rattle.covd_commands.specs.FromFiles.{Files, NotLoaded, HasDesign, HasNoDesign}

-- what a command's word lists
abbrev pub listing_of : (word : List ℕ) → Option Listing
listing_of word = if bytes_eq word (codes "check") then Some Bins else (if bytes_eq word (codes "tables") then Some Tables else None)

-- the words are `check` or `tables`, which says what is listed, and the design's name
pub record IsListCommand (words : List (List ℕ)) (listing : Listing) (design : List ℕ) : Type 0 where
  pub word : List ℕ
  pub are : words ≡ word ∷ design ∷ []
  pub lists : listing_of word ≡ Some listing

abbrev pub IsNoList : List (List ℕ) → Type 0
IsNoList words = (listing : Listing) (design : List ℕ) → IsListCommand words listing design → ⊥

-- the text of a listing
abbrev pub listing_text : Listing → Design → List ℕ
listing_text Bins d = check_text d
listing_text Tables d = tables_text d

-- Status and text of `check DESIGN` and `tables DESIGN`: the cause of each status.
abbrev pub Lists : Files → ℕ → ℕ → Listing → (design : List ℕ) → Status → List ℕ → Type 0
Lists files before now listing design status.Done text = (d : Design) × HasDesign files design d × (text ≡ listing_text listing d)
Lists files before now listing design status.DesignRefused text = HasNoDesign files design text
Lists files before now listing design status.ShelfFault text = NotLoaded files before now design longest_design status.ShelfFault text
Lists files before now listing design status.FileTooLong text = NotLoaded files before now design longest_design status.FileTooLong text
Lists files before now listing design other text = ⊥
