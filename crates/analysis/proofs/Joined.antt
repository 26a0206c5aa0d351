-- A table in which each rule is joined is the joined table, whichever rule was joined first.
use Rattle.std.proofs.Common.{◌≡◌, ℕ, ◌<◌, Bool, false, ◌||◌, List, length, ap, sym, ◌∙◌, arith}
use Rattle.std.proofs.lemmas.List.{ext_get_or}
use Rattle.form.specs.declared.expr.Expr.{Expr}
use Rattle.form.specs.Records.{body}
use Rattle.form.specs.Tables.{marked, joined}
use Rattle.form.proofs.Filled.{filled_length, filled_own}
use Rattle.analysis.specs.Entries.{joins}

pub joined_is : (es : List Expr) (rs : List ℕ) (t v w : List Bool) → length v ≡ length rs → length w ≡ length rs
    → ((k : ℕ) → k < length rs → marked w k ≡ joins es rs t k v) → w ≡ joined es rs t v
unfolding joined
joined_is es rs t v w lv lw each =
    let long = filled_length false (λ r m. joins es rs t r m) 0 (length rs) v in
    let own = filled_own false (λ r m. joins es rs t r m) (λ r m n e. ap (λ b. b || marked t (body es rs r)) e) 0 (length rs) v in
    ext_get_or false w _ (omega (arith, long)) (λ k l. each k (omega arith) ∙ sym (own k (omega arith) (omega arith) (omega arith)))
