-- Runs that are put behind others add the bits of each.
use Rattle.std.specs.Prelude.{◌≡◌, refl, ℕ, List, Bool, true, false, ◌||◌, Option}
use Rattle.std.proofs.Common.{ap, sym, ◌∙◌, subst}
use Rattle.fv_text.specs.declared.pos.Pos.{Pos}
use Rattle.vl_tree.specs.declared.expr.Select.{Select}
use Rattle.vl_tree.specs.declared.expr.Select.TheVariants as k
use Rattle.vl_tree.specs.Expr.{Expr, Selects, name, whole}
use Rattle.vl_tree.specs.ExprView.{selects, with_select}
use Rattle.vl_size.specs.declared.decl.Decl.{Decl}
use Rattle.vl_flow_spec.specs.Reads.{Bits, reads, selected, selects_read}
use Rattle.vl_flow_cells.specs.declared.cell_run.CellRun.{CellRun}
use Rattle.vl_flow_cells.specs.Numbered.{Adds, HasSize, Shows, any_takes, some_takes}
use Rattle.vl_flow_cells.specs.Sized.{IsSized, SelectsAreSized}

assoc : (a b c : Bool) → (a || (b || c)) ≡ ((a || b) || c)
assoc true b c = refl
assoc false b c = refl

or_false : (a : Bool) → (a || false) ≡ a
or_false true = refl
or_false false = refl

module _ (ds : List Decl) where
  pub adds_none : (xs : List CellRun) (K : Bits) → ((n : List ℕ) (i : ℕ) → K n i ≡ false) → Adds ds xs xs K
  adds_none xs K none c n i e =
      sym (ap (λ b. any_takes xs c i || b) (none n i) ∙ or_false (any_takes xs c i))

  pub adds_then : (xs ys zs : List CellRun) (J K : Bits) → Adds ds xs ys J → Adds ds ys zs K
      → Adds ds xs zs (λ n i. J n i || K n i)
  adds_then xs ys zs J K first second c n i e =
      second c n i e ∙ ap (λ b. b || K n i) (first c n i e) ∙ sym (assoc (any_takes xs c i) (J n i) (K n i))

  pub adds_put : (xs ys : List CellRun) (o : Option CellRun) (K : Bits)
      → ((c i : ℕ) → any_takes ys c i ≡ (any_takes xs c i || some_takes o c i)) → Shows ds (some_takes o) K
      → Adds ds xs ys K
  adds_put xs ys o K put shows c n i e = put c i ∙ ap (λ b. any_takes xs c i || b) (shows c n i e)

  pub adds_as : (before after : List CellRun) (J K : Bits) → ((n : List ℕ) (i : ℕ) → J n i ≡ K n i)
      → Adds ds before after J → Adds ds before after K
  adds_as before after J K same h c n i e = h c n i e ∙ ap (λ b. any_takes before c i || b) (same n i)

  -- ---- what is selected, and the indices

  pub adds_name : (p : Pos) (text : List ℕ) (ss ts us : List Select) (e : Expr) (before mid after : List CellRun)
      (o : Option CellRun) → ts ≡ ss → us ≡ ss → name p text (selects ss) ≡ e
      → ((c i : ℕ) → any_takes mid c i ≡ (any_takes before c i || some_takes o c i))
      → (HasSize ds text (selects ts) → Shows ds (some_takes o) (selected ds text (selects ts)))
      → (SelectsAreSized ds (selects us) → Adds ds mid after (selects_read ds (selects us))) → IsSized ds e
      → Adds ds before after (reads ds e)
  adds_name p text ss ts us e before mid after o f g same put shows adds sized =
      let xs = selects ss in
      let parts : HasSize ds text xs × SelectsAreSized ds xs = subst (IsSized ds) (sym same) sized in
      let taken : Shows ds (some_takes o) (selected ds text xs) =
      subst (λ ys. Shows ds (some_takes o) (selected ds text (selects ys))) f
      (shows (subst (λ ys. HasSize ds text (selects ys)) (sym f) parts.0)) in
      let indices : Adds ds mid after (selects_read ds xs) =
      subst (λ ys. Adds ds mid after (selects_read ds (selects ys))) g
      (adds (subst (λ ys. SelectsAreSized ds (selects ys)) (sym g) parts.1)) in
      subst (λ y. Adds ds before after (reads ds y)) same
      (adds_then before mid after (selected ds text xs) (selects_read ds xs)
      (adds_put before mid o (selected ds text xs) put taken) indices)

  -- ---- operands

  -- of an expression that is this one
  pub adds_same : (x y : Expr) (before after : List CellRun) → x ≡ y
      → (IsSized ds x → Adds ds before after (reads ds x)) → IsSized ds y → Adds ds before after (reads ds y)
  adds_same x y before after e = subst (λ z. IsSized ds z → Adds ds before after (reads ds z)) e

  pub adds_two : (x y e : Expr) (before mid after : List CellRun) → (IsSized ds e → IsSized ds x × IsSized ds y)
      → ((n : List ℕ) (i : ℕ) → (reads ds x n i || reads ds y n i) ≡ reads ds e n i)
      → (IsSized ds x → Adds ds before mid (reads ds x)) → (IsSized ds y → Adds ds mid after (reads ds y))
      → IsSized ds e → Adds ds before after (reads ds e)
  adds_two x y e before mid after parts both first second sized =
      adds_as before after (λ n i. reads ds x n i || reads ds y n i) (reads ds e) both
      (adds_then before mid after (reads ds x) (reads ds y) (first (parts sized).0) (second (parts sized).1))

  -- ---- one select before the others

  pub select_sized : (s : Select) (rest : Selects) → SelectsAreSized ds (with_select s rest)
      → SelectsAreSized ds (with_select s whole) × SelectsAreSized ds rest
  select_sized (k.Bit p x) rest h = ((h.0, tt), h.1)
  select_sized (k.Part p x y) rest h = ((h.0, tt), h.1)
  select_sized (k.Indexed p x y) rest h = ((h.0, tt), h.1)

  pub select_first : (s : Select) (rest : Selects) (n : List ℕ) (i : ℕ)
      → (selects_read ds (with_select s whole) n i || selects_read ds rest n i)
      ≡ selects_read ds (with_select s rest) n i
  select_first (k.Bit p x) rest n i = ap (λ b. b || selects_read ds rest n i) (or_false (reads ds x.value n i))
  select_first (k.Part p x y) rest n i =
      ap (λ b. b || selects_read ds rest n i) (or_false (reads ds x.value n i || reads ds y.value n i))
  select_first (k.Indexed p x y) rest n i =
      ap (λ b. b || selects_read ds rest n i) (or_false (reads ds x.value n i || reads ds y.value n i))

  pub adds_pair : (x y x' y' : Expr) (before mid after : List CellRun) → x ≡ x' → y ≡ y'
      → (IsSized ds x → Adds ds before mid (reads ds x)) → (IsSized ds y → Adds ds mid after (reads ds y))
      → IsSized ds x' × IsSized ds y' → Adds ds before after (λ n i. (reads ds x' n i || reads ds y' n i) || false)
  adds_pair x y x' y' before mid after f g first second sized =
      adds_as before after (λ n i. reads ds x' n i || reads ds y' n i)
      (λ n i. (reads ds x' n i || reads ds y' n i) || false)
      (λ n i. sym (or_false (reads ds x' n i || reads ds y' n i)))
      (adds_then before mid after (reads ds x') (reads ds y') (adds_same x x' before mid f first sized.0)
      (adds_same y y' mid after g second sized.1))
