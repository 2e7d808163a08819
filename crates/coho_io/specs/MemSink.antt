-- A sink in memory: its bytes, and the calls that are to fail.
use Rattle.std.specs.Prelude.{ℕ, List, [], ◌∷◌, ◌++◌, take}
use Rattle.std.specs.declared.option.Option.{Option}
use Rattle.coho_io.specs.Causes.{one_more}
use Rattle.coho_io.specs.Calls.{taken_at}

-- calls counts those that were made; a pair of failing is the number of a call, and how many bytes
-- it takes
pub record SinkState : Type 0 where
  pub bytes : List ℕ
  pub calls : ℕ
  pub failing : List (ℕ × ℕ)
  pub faults : ℕ

abbrev pub no_bytes : SinkState
no_bytes = record { bytes = []; calls = 0; failing = []; faults = 0 }

-- a call is listed as one that fails
abbrev pub listed : SinkState → ℕ → ℕ → SinkState
listed s call taken = record s { failing = s.failing ++ (call, taken) ∷ [] }

-- how many bytes the call that comes next takes before it fails, where it is listed
abbrev pub taken_next : SinkState → Option ℕ
taken_next s = taken_at s.failing (one_more s.calls)

-- after a call that memory was wanting for
abbrev pub counted : SinkState → SinkState
counted s = record s { calls = one_more s.calls }

-- after a call that took a piece
abbrev pub wrote : SinkState → List ℕ → SinkState
wrote s piece = record s { bytes = s.bytes ++ piece; calls = one_more s.calls }

-- after a call that failed
abbrev pub cut_short : SinkState → List ℕ → ℕ → SinkState
cut_short s piece taken = record s {
  bytes = s.bytes ++ take taken piece;
  calls = one_more s.calls;
  faults = one_more s.faults;
}
