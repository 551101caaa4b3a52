-- What a writer of records has to announce, as lines: the signals of a design, and its instances with the arguments of
-- their sample functions. Things are numbered from 0, as records name them.
use Rattle.std.specs.Prelude.{ℕ, ◌+◌, List, [], ◌∷◌, ◌++◌, codes, decimal, slice_get, Option, Some, None, Bool, if◌then◌else◌}
use Rattle.design_data.specs.declared.design.Design.{Design}
use Rattle.design_data.specs.declared.infos.Signal.{Signal}
use Rattle.design_data.specs.declared.infos.GroupInfo.{GroupInfo}
use Rattle.design_data.specs.declared.infos.InstInfo.{InstInfo}
use Rattle.covd_commands.specs.Lines.{newline}

-- the lines of things that are numbered from `number` on
abbrev pub numbered : {A : Type 0} → (line : ℕ → A → List ℕ) → (number : ℕ) → List A → List ℕ
numbered line number [] = []
numbered line number (x ∷ xs) = line number x ++ numbered line (number + 1) xs

-- how a signal's bits are read
abbrev pub sign_word : (signed : Bool) → List ℕ
sign_word signed = if signed then codes "signed" else codes "unsigned"

-- WIDTH SIGN NAME
abbrev pub typed_name : Signal → List ℕ
typed_name s = decimal s.width ++ 32 ∷ (sign_word s.signed ++ 32 ∷ (s.name ++ newline))

-- signal N WIDTH SIGN NAME
abbrev pub signal_line : (number : ℕ) → Signal → List ℕ
signal_line number s = codes "signal " ++ (decimal number ++ 32 ∷ typed_name s)

-- argument N K WIDTH SIGN NAME, of the K-th argument of the N-th instance's sample function (IEEE 1800-2017, 19.8.1)
abbrev pub argument_line : (instance number : ℕ) → Signal → List ℕ
argument_line instance number s = codes "argument " ++ (decimal instance ++ 32 ∷ (decimal number ++ 32 ∷ typed_name s))

-- the name of a group; each instance of a design has one
abbrev pub name_of : Option GroupInfo → List ℕ
name_of None = []
name_of (Some group) = group.name

-- instance N GROUP NAME
abbrev pub instance_line : List GroupInfo → (number : ℕ) → InstInfo → List ℕ
instance_line groups number inst =
    codes "instance " ++ (decimal number ++ 32 ∷ (name_of (slice_get groups inst.group) ++ 32 ∷ (inst.name ++ newline)))

-- it, and a line for each argument
abbrev pub instance_lines : List GroupInfo → (number : ℕ) → InstInfo → List ℕ
instance_lines groups number inst = instance_line groups number inst ++ numbered (argument_line number) 0 inst.args

-- the signals, and the instances
unfoldable pub tables_text : Design → List ℕ
tables_text d = numbered signal_line 0 d.signals ++ numbered (instance_lines d.groups) 0 d.instances
