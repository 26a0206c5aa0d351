-- The sections were cut from the bytes that were passed, and each answer has its verdict's meaning.
use Rattle.std.proofs.Common.{rules}
use Rattle.grammar.proofs.Bytes.{split_from}
use Rattle.grammar.proofs.Told.{told_meant}
use Rattle.grammar.proofs.grammar.Grammar.check.Goals as goal

pub read_contents-requires : goal.read_contents-requires
read_contents-requires c = split_from _ (λ i. (c.type_inv.bytes i).fits) _ c.in_ok-layout.ensures

pub returns-in_err-layout-clause-means : goal.returns-in_err-layout-clause-means
returns-in_err-layout-clause-means c = told_meant _ (λ i. (c.type_inv.bytes i).fits) _ (search rules)

pub returns-in_err-none_behind-clause-means : goal.returns-in_err-none_behind-clause-means
returns-in_err-none_behind-clause-means c = told_meant _ (λ i. (c.type_inv.bytes i).fits) _ (search rules)

pub returns-clause-means : goal.returns-clause-means
returns-clause-means c = told_meant _ (λ i. (c.type_inv.bytes i).fits) c.read_contents.result (search rules)
