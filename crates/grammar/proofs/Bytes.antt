-- What a slice of bytes holds are bytes, and so sections that were cut from one were cut from bytes.
use Rattle.std.proofs.Common.{◌≡◌, ℕ, ◌<◌, ◌≤◌, List, length, get_or, Ok, sym}
use Rattle.std.proofs.lemmas.List.{get_or_default}
use Rattle.form.specs.Bytes.{AllBytes}
use Rattle.form.specs.Verdict.{Layout, layout}
use Rattle.form.proofs.Read.{rest_short}
use Rattle.grammar.specs.Views.{Split}

pub all_bytes : (bs : List ℕ) → ((i : ℕ) → get_or bs i 0 < 256) → AllBytes bs
all_bytes bs h i d l = rw (get_or_default bs i d 0 l) (h i)

pub split_from : (bs : List ℕ) → ((i : ℕ) → get_or bs i 0 < 256) → (l : Layout) → Ok l ≡ layout bs → Split l
split_from bs h l q = record { from = bs; are_bytes = all_bytes bs h; is = sym q }

-- no more bytes are behind the sections than there are
pub after_short : (bs : List ℕ) → ((i : ℕ) → get_or bs i 0 < 256) → (l : Layout) → Ok l ≡ layout bs → length l.rules.after ≤ length bs
after_short bs h l q = rest_short bs (all_bytes bs h) l (sym q)
