-- The three readings of a phrase agree.
use Rattle.std.specs.Prelude.{◌≡◌, refl, ℕ, ◌+◌, List, [], ◌∷◌, ◌++◌, length}
use Rattle.std.proofs.Common.{ap, sym, ◌∙◌}
use Rattle.std.proofs.lemmas.List.{append_assoc, length-append}
use Rattle.fv_text.specs.declared.kind.Kind.{Kind}
use Rattle.fv_text.specs.declared.token.Token.{Token}
use Rattle.vl_tree.specs.Phrase.{
  Phrase,
  nothing,
  token,
  operator,
  ◌▸◌,
  at,
  within,
  level,
  kinds,
  IsNext,
  Spells,
  open_at,
  open_behind,
  kinds_of,
}

next : (kind : Kind) (ts rest : List Token) → IsNext kind ts rest → kinds_of ts ≡ kind ∷ kinds_of rest
next kind [] rest h = absurd h
next kind (t ∷ ts) rest h = λ i. h.0 i ∷ kinds_of (h.1 i)

-- tokens that spell a phrase are of its kinds
pub spelled : (a : Phrase) (ts rest : List Token) → Spells a ts rest → kinds_of ts ≡ kinds a ++ kinds_of rest
spelled nothing ts rest h = ap kinds_of h
spelled (token kind) ts rest h = next kind ts rest h
spelled (operator kind) ts rest h = next kind ts rest h
spelled (a ▸ b) ts rest h =
    spelled a ts h.0 h.1 ∙ ap (λ ks. kinds a ++ ks) (spelled b h.0 rest h.2)
    ∙ sym (append_assoc (kinds a) (kinds b) (kinds_of rest))
spelled (at p a) ts rest h = spelled a ts rest h.1
spelled (within a) ts rest h = spelled a ts rest h
spelled (level a) ts rest h = spelled a ts rest h

-- there is a number for each token
pub counted : (a : Phrase) (n : ℕ) → length (open_at a n) ≡ length (kinds a)
counted nothing n = refl
counted (token kind) n = refl
counted (operator kind) n = refl
counted (a ▸ b) n =
    length-append (open_at a n) (open_at b (open_behind a n)) ∙ (λ i. counted a n i + counted b (open_behind a n) i)
    ∙ sym (length-append (kinds a) (kinds b))
counted (at p a) n = counted a n
counted (within a) n = counted a (n + 1)
counted (level a) n = counted a n
