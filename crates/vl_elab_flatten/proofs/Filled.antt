-- Nets and variables that are declared one behind the other.
use Rattle.std.specs.Prelude.{◌≡◌, refl, ℕ, ◌≤◌, List, [], ◌∷◌, ◌++◌, Bool, false, true, ◌||◌, bytes_eq}
use Rattle.std.proofs.Common.{ap, sym, ◌∙◌, subst, true≢false, append_assoc, arith}
use Rattle.std.proofs.lemmas.List.{append-nil}
use Rattle.vl_size.specs.declared.decl.Decl.{Decl}
use Rattle.vl_size.specs.Table.{AreDifferent, IsPlain, IsShaped, is_declared, span}
use Rattle.fv_text.proofs.Lookups.{bytes_eq-swap}
use Rattle.vl_mean.specs.Runs.{Each}
use Rattle.vl_mean.specs.Scopes.{Scope}
use Rattle.vl_elab_draft.specs.Kept.{with_decl}
use Rattle.vl_elab_const.specs.Openable.{IsInRange}
use Rattle.vl_elab_flatten.specs.Levels.{with_decls}

or_first : (a b : Bool) → (a || b) ≡ false → a ≡ false
or_first true b h = h
or_first false b h = refl

or_second : (a b : Bool) → (a || b) ≡ false → b ≡ false
or_second true b h = absurd (true≢false h)
or_second false b h = h

neither : (a b : Bool) → a ≡ false → b ≡ false → (a || b) ≡ false
neither true b h e = h
neither false b h e = e

before : (ds es : List Decl) (d : Decl) (name : List ℕ) → is_declared (ds ++ d ∷ es) name ≡ false
    → bytes_eq name d.name ≡ false
before [] es d name h = or_first (bytes_eq name d.name) (is_declared es name) h
before (c ∷ ds) es d name h = before ds es d name (or_second (bytes_eq name c.name) (is_declared (ds ++ d ∷ es) name) h)

fresh : (ds es : List Decl) (d : Decl) → AreDifferent (ds ++ d ∷ es) → is_declared ds d.name ≡ false
fresh [] es d h = refl
fresh (c ∷ ds) es d h =
    neither (bytes_eq d.name c.name) (is_declared ds d.name) (bytes_eq-swap d.name c.name ∙ before ds es d c.name h.0)
    (fresh ds es d h.1)

shaped_of : (d : Decl) → IsInRange d → IsShaped d
shaped_of d h =
    let few : span d.left d.right ≤ 128 = h.short.few in
    record {
      some_bits = subst (λ n. 1 ≤ n) (sym h.width) (omega arith);
      few_bits = subst (λ n. n ≤ 128) (sym h.width) few;
      spans = h.width;
    }

-- the declarations that are left, of a scope that is filled with all
pub record Fills (whole now : Scope) (left : List Decl) : Type 0 where
  pub different : AreDifferent (now.decls ++ left)
  pub plain : Each IsPlain left
  pub in_range : Each IsInRange left
  pub same : with_decls now left ≡ whole

pub fills_first : (s : Scope) (all : List Decl) → AreDifferent (s.decls ++ all) → Each IsPlain all
    → Each IsInRange all → Fills (with_decls s all) s all
fills_first s all d p r = record { different = d; plain = p; in_range = r; same = refl }

module _ (whole s : Scope) (left rest : List Decl) (d e : Decl) (front : left ≡ d ∷ rest) (is : e ≡ d)
    (fills : Fills whole s left) where
  pub next_fresh : is_declared s.decls e.name ≡ false
  next_fresh =
      ap (λ x. is_declared s.decls x.name) is
      ∙ fresh s.decls rest d (subst (λ ds. AreDifferent (s.decls ++ ds)) front fills.different)

  pub next_plain : IsPlain e
  next_plain = subst IsPlain (sym is) (subst (Each IsPlain) front fills.plain).0

  pub next_shaped : IsShaped e
  next_shaped = subst IsShaped (sym is) (shaped_of d (subst (Each IsInRange) front fills.in_range).0)

  pub fills_on : (t : Scope) → t ≡ with_decl s e → Fills whole t rest
  fills_on t made =
      let so : t ≡ with_decl s d = made ∙ ap (with_decl s) is in
      let joined : s.decls ++ d ∷ rest ≡ t.decls ++ rest =
      sym (ap (λ u. u.decls ++ rest) so ∙ append_assoc s.decls (d ∷ []) rest) in
      record {
        different = subst AreDifferent joined (subst (λ ds. AreDifferent (s.decls ++ ds)) front fills.different);
        plain = (subst (Each IsPlain) front fills.plain).1;
        in_range = (subst (Each IsInRange) front fills.in_range).1;
        same =
            ap (λ u. with_decls u rest) so
            ∙ ap (λ ds. record s { decls = ds }) (append_assoc s.decls (d ∷ []) rest)
            ∙ ap (with_decls s) (sym front) ∙ fills.same;
      }

pub fills_last : (whole s : Scope) (left : List Decl) → left ≡ [] → Fills whole s left → s ≡ whole
fills_last whole s left e fills =
    ap (λ ds. record s { decls = ds }) (sym (append-nil s.decls)) ∙ ap (with_decls s) (sym e) ∙ fills.same

declared_front : (ds es : List Decl) (name : List ℕ) → is_declared (ds ++ es) name ≡ false
    → is_declared ds name ≡ false
declared_front [] es name h = refl
declared_front (d ∷ ds) es name h =
    neither (bytes_eq name d.name) (is_declared ds name)
    (or_first (bytes_eq name d.name) (is_declared (ds ++ es) name) h)
    (declared_front ds es name (or_second (bytes_eq name d.name) (is_declared (ds ++ es) name) h))

pub different_decls_front : (ds es : List Decl) → AreDifferent (ds ++ es) → AreDifferent ds
different_decls_front [] es h = tt
different_decls_front (d ∷ ds) es h = (declared_front ds es d.name h.0, different_decls_front ds es h.1)
