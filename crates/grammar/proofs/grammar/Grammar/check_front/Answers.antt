-- The sections were cut from the bytes that were passed, and each answer has its verdict's meaning.
use Rattle.std.proofs.Common.{Ok, rules}
use Rattle.grammar.proofs.Bytes.{split_from, after_short}
use Rattle.grammar.proofs.Told.{told_front_meant}
use Rattle.grammar.proofs.grammar.Grammar.check_front.Goals as goal

pub read_contents-requires : goal.read_contents-requires
read_contents-requires c = split_from _ (λ i. (c.type_inv.bytes i).fits) _ c.in_ok-layout.ensures

pub overflow_sub-end : goal.overflow_sub-end
overflow_sub-end c = after_short _ (λ i. (c.type_inv.bytes i).fits) _ c.in_ok-layout.ensures

pub returns-in_err-layout-clause-means : goal.returns-in_err-layout-clause-means
returns-in_err-layout-clause-means c = told_front_meant _ (λ i. (c.type_inv.bytes i).fits) _ (search rules)

pub returns-in_err-grammar-clause-means : goal.returns-in_err-grammar-clause-means
returns-in_err-grammar-clause-means c = told_front_meant _ (λ i. (c.type_inv.bytes i).fits) _ (search rules)

pub returns-clause-means : goal.returns-clause-means
returns-clause-means c = told_front_meant _ (λ i. (c.type_inv.bytes i).fits) (Ok (c.in_ok-grammar.grammar, _)) (search rules)
