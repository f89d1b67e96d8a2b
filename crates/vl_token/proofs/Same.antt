-- Numbers and tokens are the same where their fields are.
use Rattle.std.proofs.Common.{◌≡◌, ℕ, ◌^◌, ◌≤◌, ◌<◌, Bool, true, ap, ◌∙◌, subst}
use Rattle.std.proofs.Props.{props}
use Rattle.fv_text.specs.Named.{is_well_named}
use Rattle.fv_text.specs.declared.kind.Kind.{Kind}
use Rattle.fv_text.specs.declared.number.Number.{Number}
use Rattle.fv_text.specs.declared.pos.Pos.{Pos}
use Rattle.fv_text.specs.declared.token.Token.{Token}

named_one : (k : Kind) (h h' : is_well_named k ≡ true) → h ≡ h'
named_one k h h' = let one : IsProp (is_well_named k ≡ true) = hlevel props in one h h'

token_at : (k k' : Kind) (p p' : Pos) (h : is_well_named k ≡ true) (h' : is_well_named k' ≡ true) → k ≡ k' → p ≡ p'
    → (let t : Token = record { kind = k; pos = p; named = h }
    in let u : Token = record { kind = k'; pos = p'; named = h' } in t ≡ u)
token_at k k' p p' h h' e f =
    subst (λ z. (g : is_well_named z ≡ true)
    → (let t : Token = record { kind = k; pos = p; named = h }
    in let u : Token = record { kind = z; pos = p'; named = g } in t ≡ u)) e
    (λ g. subst (λ z. (let t : Token = record { kind = k; pos = p; named = h }
    in let u : Token = record { kind = k; pos = z; named = g } in t ≡ u)) f
    (ap (λ z. let t : Token = record { kind = k; pos = p; named = z } in t) (named_one k h g))) h'

pub same_token : (t u : Token) → t.kind ≡ u.kind → t.pos ≡ u.pos → t ≡ u
same_token t u e f = token_at t.kind u.kind t.pos u.pos t.named u.named e f

-- what a number keeps
abbrev Facts : ℕ → ℕ → ℕ → ℕ → Type 0
Facts w v x u = (1 ≤ w) × (w ≤ 128) × (v < 2 ^ w) × (x < 2 ^ w) × (u < 2 ^ w)

facts_one : (w v x u : ℕ) (h k : Facts w v x u) → h ≡ k
facts_one w v x u h k = let one : IsProp (Facts w v x u) = hlevel props in one h k

abbrev made : Bool → Bool → (w v x u : ℕ) → Facts w v x u → Number
made s g w v x u h = record {
  sized = s;
  signed = g;
  width = w;
  value = v;
  wild = x;
  unknown = u;
  some_bits = h.0;
  few_bits = h.1;
  value_fits = h.2;
  wild_fits = h.3;
  unknown_fits = h.4;
}

by_unknown : (s g : Bool) (w v x u u' : ℕ) (h : Facts w v x u) (k : Facts w v x u') → u ≡ u'
    → made s g w v x u h ≡ made s g w v x u' k
by_unknown s g w v x u u' h k e =
    subst (λ z. (l : Facts w v x z) → made s g w v x u h ≡ made s g w v x z l) e
    (λ l. ap (λ z. made s g w v x u z) (facts_one w v x u h l)) k

by_wild : (s g : Bool) (w v x x' u u' : ℕ) (h : Facts w v x u) (k : Facts w v x' u') → x ≡ x' → u ≡ u'
    → made s g w v x u h ≡ made s g w v x' u' k
by_wild s g w v x x' u u' h k e f =
    subst (λ z. (l : Facts w v z u') → made s g w v x u h ≡ made s g w v z u' l) e
    (λ l. by_unknown s g w v x u u' h l f) k

by_value : (s g : Bool) (w v v' x x' u u' : ℕ) (h : Facts w v x u) (k : Facts w v' x' u') → v ≡ v' → x ≡ x' → u ≡ u'
    → made s g w v x u h ≡ made s g w v' x' u' k
by_value s g w v v' x x' u u' h k d e f =
    subst (λ z. (l : Facts w z x' u') → made s g w v x u h ≡ made s g w z x' u' l) d
    (λ l. by_wild s g w v x x' u u' h l e f) k

by_width : (s g : Bool) (w w' v v' x x' u u' : ℕ) (h : Facts w v x u) (k : Facts w' v' x' u') → w ≡ w' → v ≡ v'
    → x ≡ x' → u ≡ u' → made s g w v x u h ≡ made s g w' v' x' u' k
by_width s g w w' v v' x x' u u' h k c d e f =
    subst (λ z. (l : Facts z v' x' u') → made s g w v x u h ≡ made s g z v' x' u' l) c
    (λ l. by_value s g w v v' x x' u u' h l d e f) k

pub same_number : (m n : Number) → m.sized ≡ n.sized → m.signed ≡ n.signed → m.width ≡ n.width → m.value ≡ n.value
    → m.wild ≡ n.wild → m.unknown ≡ n.unknown → m ≡ n
same_number m n a b c d e f =
    let h : Facts m.width m.value m.wild m.unknown =
    (m.some_bits, m.few_bits, m.value_fits, m.wild_fits, m.unknown_fits) in
    let k : Facts n.width n.value n.wild n.unknown =
    (n.some_bits, n.few_bits, n.value_fits, n.wild_fits, n.unknown_fits) in
    ap (λ z. made z m.signed m.width m.value m.wild m.unknown h) a
    ∙ (ap (λ z. made n.sized z m.width m.value m.wild m.unknown h) b
    ∙ by_width n.sized n.signed m.width n.width m.value n.value m.wild n.wild m.unknown n.unknown h k c d e f)
