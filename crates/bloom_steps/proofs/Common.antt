-- The names that most proofs of this crate cite, besides those of the standard library, passed on
-- from one place. Declares nothing.
pub use Rattle.std.proofs.lemmas.Option.{get_or_from_slice_get, none-some, same_Some, slice_get-get_or, slice_get_within}
pub use Rattle.std.proofs.lemmas.Bool.{and_from, and_parts, and_right, both_ways, cases_eq, cases_lt, eq-eqb, eqb-false, eqb-true, false_from_ne_true, lt-ltb, ltb-true, ne_eqb, not-false, not-true, true_from_ne_false}
pub use Rattle.std.proofs.lemmas.Bool.Decides.{eqb_tells, nat_tests}
pub use Rattle.std.proofs.lemmas.List.{append-nil, append_assoc, drop-take, get_or-set_other, get_or-set_same, length-append, length-map, length-set, map-append, set-get_or, take-append-le, take_more, take_more_set}
pub use Rattle.std.proofs.Math.Seq.{get_or-append_seam, take-add, take-append-add, take-append_seam, take-length}
pub use Rattle.std.specs.Prelude.{IsOkUnless, length, slice_index_or, sum_by, ℕ, ◌≤◌}
pub use Rattle.std.specs.Int.{bit_at, rotate_left, w64}
pub use Rattle.bloom_parts.specs.Content.{AreWords, EqualWordsLaw, bit_is_on, index_of}
unfoldable pub use Rattle.bloom_parts.specs.Content.{content}
pub use Rattle.bloom_parts.specs.Places.{IsPosition, place}
unfoldable pub use Rattle.bloom_parts.specs.Places.{are_in, positions}
pub use Rattle.bloom_parts.specs.Chain.{IsAt, added_of}
unfoldable pub use Rattle.bloom_parts.specs.Chain.{chain}
pub use Rattle.bloom_parts.specs.Made.{FoundByAnd, FoundByLoad, FoundByOr, FoundBySwap, InTurn, MadeZero, SharedWords, made-in_turn}
pub use Rattle.bloom_parts.specs.Deciders.{Decider, decides_nothing, last_decision, state}
pub use Rattle.bloom_parts.proofs.PublishedLemmas.{are_in-off, bit_is_on-and, bit_is_on-or, bit_is_on-zero, content-past, count-push, place-position, position-from, position-to, state-append}
unfoldable pub use Rattle.bloom_parts.specs.Counts.{count_on}
pub use Rattle.bloom_steps.proofs.StepLemmas.Members.{member-back, member-front, member-seam, member-take, member_of_more, member_of_take, some_member, split-at, take-more}
pub use Rattle.bloom_steps.specs.Vocabulary.{And, Answer, Began, Begin, Call, Clear, Contains, Did, Done, End, Event, Go, Insert, Intersect, Load, Or, Other, Record, Running, Step, Union, Zero}
pub use Rattle.bloom_steps.specs.Scripts.{AllButLast, AllFoundOn, Any, AreStepsOf, Drives, DrivesPlan, Each, Fulfils, HasCount, IsBeginning, IsLastEnd, IsNext, IsScript, Last, Linked, StopsRight, Taken, answer_of, answer_of_end, last_found, step_at}
pub use Rattle.bloom_steps.specs.Courses.{AtMostOne, CallAfterCall, Course, FindsWhatIsThere, Follows, FollowsFrom, Gives, IsLawful, IsWordOf, MayFind, TakesStep, begun_call, call_records, did, last_leaves_running, leaves_running, next_event, no_call, no_event, party_of, runs, whole_call}
unfoldable pub use Rattle.bloom_steps.specs.Courses.{records_of}
pub use Rattle.bloom_steps.specs.Plans.{EachPair, EachWord, LooksAt, Plan, TurnsOn, goes_by_hash, most_steps, plan_of, turns_none_off}
pub use Rattle.bloom_steps.specs.Steps.{after_records, load_at, or_at, record_decides, step_decides, word_index}
pub use Rattle.bloom_steps.specs.Moments.{EveryCall, EveryCallEnded, IsFinished, IsStepAt, NoneTurnedOff, OneAtATime, bits_of, moment, turns_off, turns_on}
pub use Rattle.bloom_steps.specs.Interleavings.{ContainsTell, CountsGains, FindsInserted, GainsOnce, InsertsTell, IsBalanced, IsFoundInOther, LosesNothing, TakesLoseNothing, TurnsOneOn, adds_or_takes, bits_gained, bits_taken, count_below}
unfoldable pub use Rattle.bloom_steps.specs.Interleavings.{bits_new, bits_on}
pub use Rattle.bloom_steps.specs.CourseLaws.{BitsTell, CourseTells, EachStepOf, EndsWithAll, EndsWithInserts, EndsWithUnions, HasFinishedInsert, IsInserted, IsStepOf, IsTakenSince, LawfulTells, LosesNoPosition, TakesWhatIsThere}
pub use Rattle.bloom_steps.specs.Standing.{GoesOn, IsAtPlace, IsPlaced, Keeps, KeepsOn, Learns, MovesOn, Replied, StandsAt, answer_by, answers, asks, end_by, end_of, ends_with, left, next_step}
pub use Rattle.bloom_steps.specs.Sequences.{ActsAs, ActsAsCommands, Cut, MadeCall, command_of, commands_of, cut, found_in_other, other_words}
pub use Rattle.bloom_steps.specs.Worlds.{AreWholeCalls, Happens, HasCalled, IsWorld, IsWorldOf, PartyAt, RecordsGrow, slot_runs}
pub use Rattle.bloom_steps.specs.Memories.{Makes, Memory, MemoryLaw, Moves, found_in, words_after_step}
pub use Rattle.bloom_steps.specs.Machines.{AnswersRight, AsksAfter, AsksRight, StandsFurther}
pub use Rattle.bloom_steps.specs.Carried.{CarriedOut, IsCourseOf, MadeBetween}
pub use Rattle.bloom_steps.specs.LiveSteps.{EachInTurn, IsMade, Lent, MakesCallInTurn, MakesCallOn, MakesStep, MakesStepInSpan, Span, TakesWordsOf, WasInserted, WereInserted, step_from}
pub use Rattle.bloom_steps.specs.ByWords.{DrivesByWords, HasAll, IsThere, Lacks, SetsByWords, SetsItsPart, SetsMask}
pub use Rattle.bloom_steps.specs.Loaded.{CountsLoaded, WereLoaded}
pub use Rattle.bloom_steps.specs.declared.steps.machine.Machine.{Machine}
pub use Rattle.bloom_steps.specs.declared.steps.runner.World.{World}
