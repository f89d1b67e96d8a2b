-- What a phrase spells, before other tokens.
use Rattle.std.proofs.Common.{◌≡◌, List, [], ◌∷◌, ◌++◌, refl, sym, ap, ◌∙◌}
use Rattle.std.proofs.lemmas.List.{append_assoc}
use Rattle.fv_text.specs.declared.kind.Kind.{Kind}
use Rattle.vl_tree.specs.Phrase.{Phrase, nothing, token, operator, ◌▸◌, at, within, level, kinds}

abbrev pub onto : Phrase → List Kind → List Kind
onto nothing rest = rest
onto (token kind) rest = kind ∷ rest
onto (operator kind) rest = kind ∷ rest
onto (a ▸ b) rest = onto a (onto b rest)
onto (at p a) rest = onto a rest
onto (within a) rest = onto a rest
onto (level a) rest = onto a rest

pub onto_kinds : (a : Phrase) (rest : List Kind) → onto a rest ≡ kinds a ++ rest
onto_kinds nothing rest = refl
onto_kinds (token kind) rest = refl
onto_kinds (operator kind) rest = refl
onto_kinds (a ▸ b) rest =
    onto_kinds a (onto b rest) ∙ ap (λ r. kinds a ++ r) (onto_kinds b rest)
    ∙ sym (append_assoc (kinds a) (kinds b) rest)
onto_kinds (at p a) rest = onto_kinds a rest
onto_kinds (within a) rest = onto_kinds a rest
onto_kinds (level a) rest = onto_kinds a rest

pub all_of : (ks : List Kind) → ks ++ [] ≡ ks
all_of [] = refl
all_of (kind ∷ ks) = ap (λ r. kind ∷ r) (all_of ks)
