-- `bench_calls::refusal` meets its contract. Assumes nothing.
use borrow.Author.Rules.{rules}
use Rattle.bench_calls.specs.Weights.{refusal_of}
use Rattle.bench_calls.proofs.refusal.Goals as goal

pub returns-in-Ones : goal.returns-in-Ones
unfolding refusal_of
returns-in-Ones c = search rules

pub returns-in-Refused : goal.returns-in-Refused
unfolding refusal_of
returns-in-Refused c = search rules
