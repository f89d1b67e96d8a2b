-- Next nodes set one after the other.
use Rattle.std.specs.Prelude.{◌≡◌, refl, ℕ, zero, suc, ◌+◌, ◌<◌, List, [], ◌∷◌, Some, length}
use Rattle.std.specs.Prelude.{map, take, is_none, slice_get, slice_index}
use Rattle.std.proofs.Common.{ap, sym, ◌∙◌, arith, true≢false}
use Rattle.std.proofs.lemmas.Option.{same_Some}
use Rattle.wn_net.specs.declared.parts.Reg.{Reg}
use Rattle.wn_net.specs.Changes.{with_next}
use Rattle.wn_net.specs.Net.{IsNodeOf, Netlist}
use Rattle.vl_lower_state.specs.Nexts.{AreNexts, with_nexts}

pub one_more : (ns : List ℕ) (rs : List Reg) (at n : ℕ) → slice_get ns at ≡ Some n
    → with_next at n (with_nexts (take at ns) rs) ≡ with_nexts (take (at + 1) ns) rs
one_more [] rs at n e = absurd (true≢false (ap is_none e))
one_more (m ∷ ns) [] zero n e = refl
one_more (m ∷ ns) [] (suc at) n e = sym (none (take (suc at + 1) (m ∷ ns)))
  where
    none : (us : List ℕ) → with_nexts us [] ≡ []
    none [] = refl
    none (u ∷ us) = refl
one_more (m ∷ ns) (r ∷ rs) zero n e = ap (λ k. record r { next = k } ∷ rs) (sym (same_Some m n e))
one_more (m ∷ ns) (r ∷ rs) (suc at) n e =
    let same : suc at + 1 ≡ suc (at + 1) = omega arith in
    ap (λ us. record r { next = m } ∷ us) (one_more ns rs at n e)
    ∙ ap (λ k. with_nexts (take k (m ∷ ns)) (r ∷ rs)) (sym same)

pub widths_stay : (ns : List ℕ) (rs : List Reg) → map (λ r. r.width) (with_nexts ns rs) ≡ map (λ r. r.width) rs
widths_stay [] rs = refl
widths_stay (n ∷ ns) [] = refl
widths_stay (n ∷ ns) (r ∷ rs) = ap (λ ws. r.width ∷ ws) (widths_stay ns rs)

pub as_many : (ns : List ℕ) (rs : List Reg) → length (with_nexts ns rs) ≡ length rs
as_many [] rs = refl
as_many (n ∷ ns) [] = refl
as_many (n ∷ ns) (r ∷ rs) = ap suc (as_many ns rs)

pub nexts_many : (net : Netlist) (rs : List Reg) (ns : List ℕ) → AreNexts net rs ns → length ns ≡ length rs
nexts_many net [] [] h = refl
nexts_many net [] (n ∷ ns) h = absurd h
nexts_many net (r ∷ rs) [] h = absurd h
nexts_many net (r ∷ rs) (n ∷ ns) h = ap suc (nexts_many net rs ns h.1)

pub next_at : (net : Netlist) (rs : List Reg) (ns : List ℕ) → AreNexts net rs ns → (at : ℕ) → at < length rs
    → (n : ℕ) × (slice_get ns at ≡ Some n) × IsNodeOf net (slice_index (map (λ r. r.width) rs) at) n
next_at net [] [] h at less = absurd (omega (arith, less))
next_at net [] (n ∷ ns) h at less = absurd h
next_at net (r ∷ rs) [] h at less = absurd h
next_at net (r ∷ rs) (n ∷ ns) h zero less = (n, refl, h.0)
next_at net (r ∷ rs) (n ∷ ns) h (suc at) less = next_at net rs ns h.1 at (omega (arith, less))
