-- How transition bins are divided into those with an automaton and those that are known by a word.
use Rattle.std.specs.Prelude.{◌≡◌, ◌⊎◌, ℕ, ℤ, List, [], ◌∷◌, ◌++◌}
use Rattle.trans_seq.specs.declared.seq.Seq.{Seq}
use Rattle.design_data.specs.declared.infos.BinKind.{BinKind}
use Rattle.design_data.specs.declared.infos.BinRule.{BinRule}
use Rattle.design_data.specs.declared.infos.BinRule.TheVariants.{Trans}
use Rattle.word_table.specs.declared.row.PlacedWord.{PlacedWord}
use Rattle.word_table.specs.Placed.{ArePlaced}
use Rattle.point_tables.specs.declared.tables.Machine.{Machine}
use Rattle.point_tables.specs.declared.tables.Removers.{Removers}
use Rattle.point_tables.specs.declared.transitions.Divided.{Divided}
use Rattle.point_tables.specs.Tables.{removed_by, machine_of, AreEntrances, AreKnownBy, AreDivided}

-- there is one more word, by which the bin is known
pub record HasOneMoreWord (removers : Removers) (place : ℕ) (kind : BinKind) (rule : BinRule) (old new : List PlacedWord) : Type 0 where
  pub seqs : List Seq
  pub is_rule : rule ≡ Trans seqs
  pub word : List ℤ
  pub known : AreKnownBy (removed_by removers kind) seqs word
  pub is_new : new ≡ old ++ record { word = word; place = place } ∷ []

-- the bin got an automaton, if it is a transition bin, or a word
pub record BinDivided (removers : Removers) (place : ℕ) (kind : BinKind) (rule : BinRule) (old new : Divided) : Type 0 where
  pub entrances : AreEntrances old.machines.items old.entrances.items → AreEntrances new.machines.items new.entrances.items
  pub either : ((new.rows.items ≡ old.rows.items) × (new.machines.items ≡ old.machines.items ++ machine_of place kind rule))
      ⊎ ((new.machines.items ≡ old.machines.items) × HasOneMoreWord removers place kind rule old.rows.items new.rows.items)

-- the transition bins with all these automata are prepared
pub record BinsDivided (removers : Removers) (all : List Machine) (divided : Divided) : Type 0 where
  pub are : AreDivided removers all divided.machines.items divided.rows.items
  pub entrances : AreEntrances divided.machines.items divided.entrances.items
  pub placed : ArePlaced divided.rows.items
