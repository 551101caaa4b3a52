-- The exit statuses and their numbers.
use Rattle.std.specs.Prelude.{ℕ}
use Rattle.covd_commands.specs.declared.status.Status.{Status}
use Rattle.covd_commands.specs.declared.status.Status.TheVariants.{Done, Memory, BadWords, DesignRefused, RecordRefused, AdmitRefused, ReadFault, WriteFault, ShelfFault, TornFrame, FrameTooLong, SessionTooLong, FileTooLong, DumpRefused, NoWorker, Partly, BelowGoal, WaiversRefused}

abbrev pub number_of : Status → ℕ
number_of Done = 0
number_of Memory = 1
number_of BadWords = 2
number_of DesignRefused = 3
number_of RecordRefused = 4
number_of AdmitRefused = 5
number_of ReadFault = 6
number_of WriteFault = 7
number_of ShelfFault = 8
number_of TornFrame = 9
number_of FrameTooLong = 10
number_of SessionTooLong = 11
number_of FileTooLong = 12
number_of DumpRefused = 13
number_of NoWorker = 14
number_of Partly = 18
number_of BelowGoal = 19
number_of WaiversRefused = 20
