-- The refusals of a run: the status, and the line on err.
use Rattle.std.specs.Prelude.{ℕ, List, [], ◌∷◌, ◌++◌, codes, decimal}
use Rattle.limits.specs.declared.TheConstants.{GREATEST_DIMENSION, GREATEST_ORDER, LONGEST_TEXT}
use Rattle.power_commutator.specs.declared.TestName.{TestName}
use Rattle.pc_text.specs.Faults.{Fault}
use Rattle.pc_text.specs.Kinds.{kind_name}
use Rattle.stage_records.specs.Walks.{WalkFault}
use Rattle.coho_steps.specs.Steps.{Refusal}
use Rattle.power_commutator.specs.declared.TestName.TheVariants as test
use Rattle.stage_records.specs.Walks as walks
use Rattle.coho_steps.specs.declared.status.Status.TheVariants as status

abbrev pub words_refused : Refusal
words_refused = record {
  status = status.Usage;
  line = codes "coho: the words are not those of a command" ++ 10 ∷ [];
}

-- the refusal where a file is not read
abbrev pub read_refused : List ℕ → Refusal
read_refused path = record {
  status = status.Read;
  line = codes "coho: read failed: " ++ (path ++ 10 ∷ []);
}

abbrev pub length_refused : Refusal
length_refused = record {
  status = status.Limit;
  line = codes "coho: limit: text longer than " ++ (decimal LONGEST_TEXT ++ (codes " bytes" ++ 10 ∷ []));
}

-- the first fault of a text: its place, LINE:COLUMN, and its kind
abbrev pub text_refused : Fault → Refusal
text_refused fault = record {
  status = status.Text;
  line =
      codes "coho: text fault at "
      ++ (decimal fault.line ++ (codes ":" ++ (decimal fault.column
      ++ (codes ": " ++ (kind_name fault.kind ++ 10 ∷ [])))));
}

abbrev pub order_refused : Refusal
order_refused = record {
  status = status.Limit;
  line = codes "coho: limit: order above " ++ (decimal GREATEST_ORDER ++ 10 ∷ []);
}

-- the name of a consistency test and the numbers of its generators
abbrev pub test_words : TestName → List ℕ
test_words (test.Power i j) = codes "power " ++ (decimal i ++ (codes " " ++ decimal j))
test_words (test.Swap i j k) =
    codes "swap " ++ (decimal i ++ (codes " " ++ (decimal j ++ (codes " " ++ decimal k))))
test_words (test.Fixed i) = codes "fixed " ++ decimal i
test_words (test.Twist i j) = codes "twist " ++ (decimal i ++ (codes " " ++ decimal j))

-- the first false consistency test
abbrev pub test_refused : TestName → Refusal
test_refused name = record {
  status = status.Inconsistent;
  line = codes "coho: inconsistent: " ++ (test_words name ++ 10 ∷ []);
}

-- what is refused of a stage file
abbrev pub fault_words : WalkFault → List ℕ
fault_words walks.Header = codes "header"
fault_words walks.Presentation = codes "presentation"
fault_words (walks.Record d) = codes "record " ++ decimal d

-- a stage file is not an honest one
abbrev pub file_refused : WalkFault → Refusal
file_refused fault = record {
  status = status.Stage;
  line = codes "coho: stage file refused: " ++ (fault_words fault ++ 10 ∷ []);
}

-- the stage of degree d has a free module of dimension X
abbrev pub stage_refused : ℕ → ℕ → Refusal
stage_refused d X = record {
  status = status.Limit;
  line =
      codes "coho: limit: stage "
      ++ (decimal d ++ (codes " of the group has dimension "
      ++ (decimal X ++ (codes ", above " ++ (decimal GREATEST_DIMENSION ++ 10 ∷ [])))));
}

-- the stage of degree d of subgroup i, counted from 1, has a free module of dimension X
abbrev pub subgroup_refused : ℕ → ℕ → ℕ → Refusal
subgroup_refused i d X = record {
  status = status.Limit;
  line =
      codes "coho: limit: stage "
      ++ (decimal d ++ (codes " of subgroup "
      ++ (decimal i ++ (codes " has dimension "
      ++ (decimal X ++ (codes ", above " ++ (decimal GREATEST_DIMENSION ++ 10 ∷ [])))))));
}

-- element E is not one of the group of order n
abbrev pub element_refused : ℕ → ℕ → Refusal
element_refused E n = record {
  status = status.Usage;
  line =
      codes "coho: element "
      ++ (decimal E ++ (codes " is not below " ++ (decimal n ++ 10 ∷ [])));
}

-- degree d has b basis classes, fewer than the number of the one that was asked for
abbrev pub class_refused : ℕ → ℕ → Refusal
class_refused d b = record {
  status = status.Usage;
  line =
      codes "coho: degree "
      ++ (decimal d ++ (codes " has only " ++ (decimal b ++ (codes " classes" ++ 10 ∷ []))));
}

-- a write to out that failed
abbrev pub write_refused : Refusal
write_refused = record { status = status.Write; line = codes "coho: write failed" ++ 10 ∷ [] }

-- a call on the file that is saved to that failed
abbrev pub save_refused : List ℕ → Refusal
save_refused path = record {
  status = status.Write;
  line = codes "coho: write failed: " ++ (path ++ 10 ∷ []);
}

abbrev pub memory_refused : Refusal
memory_refused = record { status = status.Memory; line = codes "coho: out of memory" ++ 10 ∷ [] }
