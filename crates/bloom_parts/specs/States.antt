-- The hasher's state of four words, as the words of SipHash.
use Rattle.bloom_parts.specs.declared.hasher.sip.state.State.{State}
use Rattle.bloom_parts.specs.Sip.{Words}

-- the four words of a state
abbrev pub state_words : State → Words
state_words s = record { v0 = s.v0; v1 = s.v1; v2 = s.v2; v3 = s.v3 }

-- the state of four words
abbrev pub of_words : Words → State
of_words s = record { v0 = s.v0; v1 = s.v1; v2 = s.v2; v3 = s.v3 }
