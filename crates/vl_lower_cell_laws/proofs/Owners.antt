-- Which declaration a text belongs to: as one of its cells, or as its name.
use Rattle.std.specs.Prelude.{◌≡◌, refl, List, true, Option, Some, None, All, ℕ, ℤ}
use Rattle.std.proofs.Common.{ap, sym, ◌∙◌, subst, ◌⊎◌, inl, inr, true≢false}
use Rattle.std.proofs.lemmas.Option.{same_Some}
use Rattle.vl_size.specs.declared.decl.Decl.{Decl}
use Rattle.vl_size.specs.Table.{AreApart, HasNoWord, IsNoWordIn, declared_as}
use Rattle.vl_mean.specs.Cells.{is_cell}
use Rattle.vl_mean.specs.Parts.{Part}
use Rattle.vl_flow_spec.specs.Reads.{IsCellOf}
use Rattle.vl_flow_spec.proofs.Cells.{cell_is_word, declared_all, own_cells, own_name}
use Rattle.vl_lower_cell_laws.specs.Entries.{is_memory}
use Rattle.vl_lower_cell_laws.proofs.ShownCounted.{has_words}

module _ (ds : List Decl) (apart : AreApart ds) where
  pub record Belongs (d : Decl) (text : List ℕ) : Type 0 where
    pub declared : declared_as ds d.name ≡ Some d
    pub is : (is_cell d.name d.words text ≡ true) ⊎ (text ≡ d.name)

  -- a declared name is no word of a memory
  no_word : (d e : Decl) → declared_as ds d.name ≡ Some d → declared_as ds e.name ≡ Some e → (b : ℤ × ℤ)
      → d.words ≡ Some b → is_cell d.name (Some b) e.name ≡ true → ⊥
  no_word d e own_d own_e b w h =
      let word = cell_is_word d.name b e.name h in
      let all : All (λ (x : Decl). IsNoWordIn d.words d.name x.name) ds =
      declared_all (HasNoWord ds) ds d.name d own_d apart in
      subst (λ o. IsNoWordIn o d.name e.name) w
      (declared_all (λ x. IsNoWordIn d.words d.name x.name) ds e.name e own_e all) word.index word.between word.is

  one_name : (d e : Decl) → declared_as ds d.name ≡ Some d → declared_as ds e.name ≡ Some e → d.name ≡ e.name → d ≡ e
  one_name d e own_d own_e same = same_Some d e (sym own_d ∙ ap (declared_as ds) same ∙ own_e)

  name_cell : (d e : Decl) → declared_as ds d.name ≡ Some d → declared_as ds e.name ≡ Some e
      → is_cell d.name d.words e.name ≡ true → d ≡ e
  name_cell d e own_d own_e h = by d.words refl h
    where
      by : (w : Option (ℤ × ℤ)) → d.words ≡ w → is_cell d.name w e.name ≡ true → d ≡ e
      by None w f = one_name d e own_d own_e (sym (own_name d.name e.name f))
      by (Some b) w f = absurd (no_word d e own_d own_e b w f)

  pub one_owner : (d e : Decl) (text : List ℕ) → Belongs d text → Belongs e text → d ≡ e
  one_owner d e text h g = by h.is g.is
    where
      by : (is_cell d.name d.words text ≡ true) ⊎ (text ≡ d.name)
          → (is_cell e.name e.words text ≡ true) ⊎ (text ≡ e.name) → d ≡ e
      by (inl a) (inl b) =
          own_cells ds apart d e text (record { declared = h.declared; cell = a })
          (record { declared = g.declared; cell = b })
      by (inl a) (inr b) =
          name_cell d e h.declared g.declared (subst (λ n. is_cell d.name d.words n ≡ true) b a)
      by (inr a) (inl b) =
          sym (name_cell e d g.declared h.declared (subst (λ n. is_cell e.name e.words n ≡ true) a b))
      by (inr a) (inr b) = one_name d e h.declared g.declared (sym a ∙ b)

  -- no cell has the name of a memory
  pub memory_no_cell : (ps : List Part) (d e : Decl) → declared_as ds d.name ≡ Some d → is_memory ps d ≡ true
      → IsCellOf ds e d.name → ⊥
  memory_no_cell ps d e own memory of = by d.words refl
    where
      same : e ≡ d
      same =
          one_owner e d d.name (record { declared = of.declared; is = inl of.cell })
          (record { declared = own; is = inr refl })

      cell : is_cell d.name d.words d.name ≡ true
      cell = subst (λ x. is_cell x.name x.words d.name ≡ true) same of.cell

      by : (w : Option (ℤ × ℤ)) → d.words ≡ w → ⊥
      by None w = true≢false (has_words ps d None w memory)
      by (Some b) w = no_word d d own own b w (subst (λ o. is_cell d.name o d.name ≡ true) w cell)
