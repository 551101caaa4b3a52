-- Records that are admitted one after the other by caller 0.
use Rattle.std.specs.Prelude.{List, [], ◌∷◌, ◌++◌, length, if◌then◌else◌}
use Rattle.design_data.specs.declared.design.Design.{Design}
use Rattle.record_codec.specs.declared.record.Record.{Record}
use Rattle.ucis_model.specs.declared.answers.Answer.{Answer}
use Rattle.cov_history.specs.declared.entry.Entry.{Entry}
use Rattle.cov_history.specs.declared.entry.Event.TheVariants as event
use Rattle.cov_history.specs.Answers.{admit_at, by, is_made}

abbrev pub entry_for : Record → Entry
entry_for r = by 0 (event.Admit r)

-- what the admission of a record is answered at a history over a design
abbrev pub admission : Design → List Entry → Record → Answer
admission d h r = admit_at d h (length h) (entry_for r) r

-- the history behind it; a record that is here already makes no entry
abbrev pub behind : Design → List Entry → Record → List Entry
behind d h r = h ++ (if is_made (admission d h r) then entry_for r ∷ [] else [])
