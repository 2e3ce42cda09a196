mod Errors
mod Inputs
mod Read
mod Seals
use Rattle.std.proofs.Common.{arith}
use Rattle.bloom_files.proofs.streams.read_parts.Answers.Errors.{error-end, error-layout, error-start, error-words}
use Rattle.bloom_files.proofs.streams.read_parts.Answers.Inputs.{input-end, input-words}
use Rattle.bloom_files.proofs.streams.read_parts.Answers.Read.{parts-read}
use Rattle.bloom_files.proofs.streams.read_parts.Answers.Seals.{error-seal, none-refused}
use Rattle.bloom_files.proofs.streams.read_parts.Goals as goal

pub begin_seal-hasher-requires : goal.begin_seal-hasher-requires
begin_seal-hasher-requires g c = omega (arith, c.in_ok-start.ensures.size)

pub returns-in_err-start-clause-refused : goal.returns-in_err-start-clause-refused
returns-in_err-start-clause-refused = error-start

pub returns-in_err-read_words-clause-refused : goal.returns-in_err-read_words-clause-refused
returns-in_err-read_words-clause-refused = error-words

pub returns-in_err-read_end-clause-refused : goal.returns-in_err-read_end-clause-refused
returns-in_err-read_end-clause-refused = error-end

pub returns-in_err-check_layout-clause-refused : goal.returns-in_err-check_layout-clause-refused
returns-in_err-check_layout-clause-refused = error-layout

pub returns-in_err-check_seal-clause-refused : goal.returns-in_err-check_seal-clause-refused
returns-in_err-check_seal-clause-refused = error-seal

pub returns-clause-refused : goal.returns-clause-refused
returns-clause-refused = none-refused

pub returns-clause-file : goal.returns-clause-file
returns-clause-file = parts-read

pub returns-in_err-read_words-clause-input : goal.returns-in_err-read_words-clause-input
returns-in_err-read_words-clause-input = input-words

pub returns-in_err-read_end-clause-input : goal.returns-in_err-read_end-clause-input
returns-in_err-read_end-clause-input = input-end
