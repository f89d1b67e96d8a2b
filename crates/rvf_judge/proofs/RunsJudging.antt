-- Where parts have the same maps and the same declarations, the one has one run for each choice where the other has.
use Rattle.std.specs.Prelude.{◌≡◌, refl, ℕ, Bool, not, ◌&&◌, ◌==◌, List, [], ◌∷◌, is_none}
use Rattle.std.proofs.Common.{subst, sym}
use Rattle.vl_size.specs.declared.decl.Class.{Class}
use Rattle.vl_size.specs.declared.decl.Class.TheVariants as class
use Rattle.vl_size.specs.declared.decl.Decl.{Decl}
use Rattle.vl_size.specs.Size.{Values}
use Rattle.vl_mean.specs.Parts.{Part, clocked, combinational, declares, equation, starts}
use Rattle.vl_mean.specs.Runs.{Agrees, AgreesAt, Each, EachBit, EachDeclared, OnlyIf, last_value}
use Rattle.vl_mean.specs.Targets.{bit_of}
use Rattle.vl_mean_flat.specs.Flattened.{decls_of}
use Rattle.vl_mean_flat.specs.SameMaps.{AreSameMaps}
use Rattle.ck_design.specs.Choosing.{ChooseAlike, HasOneRun, IsRunBy, is_free}
use Rattle.ck_design.specs.Retirements.{values_at}
use Rattle.ck_design.proofs.Declares.{each_declared}

each_of : (P : Decl → Type 0) (ps : List Part) → EachDeclared P ps → Each P (decls_of ps)
each_of P [] h = tt
each_of P (declares d ∷ ps) h = (h.0, each_of P ps h.1)
each_of P (equation ts l ss v ∷ ps) h = each_of P ps h
each_of P (combinational ss b ∷ ps) h = each_of P ps h
each_of P (clocked ss b ∷ ps) h = each_of P ps h
each_of P (starts ss l v ∷ ps) h = each_of P ps h

-- what holds of each declared name of the one does of the other's
pub moved : (P : Decl → Type 0) (ps qs : List Part) → decls_of ps ≡ decls_of qs → EachDeclared P ps → EachDeclared P qs
moved P ps qs e h = each_declared P qs (subst (λ ds. Each P ds) e (each_of P ps h))

same_free : (ps qs : List Part) → AreSameMaps ps qs → (c : Class) (text : List ℕ) (k cycle : ℕ)
    → is_free ps c text k cycle ≡ is_free qs c text k cycle
same_free ps qs same class.Input text k cycle = refl
same_free ps qs same class.EachCycle text k cycle = refl
same_free ps qs same class.Once text k cycle = refl
same_free ps qs same class.Variable text k cycle = λ i.
    (cycle == 0 && not (same.driven text k i)) && is_none (last_value (same.writes i) text k)
same_free ps qs same class.Reset text k cycle = refl
same_free ps qs same class.Net text k cycle = refl
same_free ps qs same class.Clock text k cycle = refl

-- bits that a test chooses are alike
abbrev AlikeBy : (Class → List ℕ → ℕ → Bool) → Values → Values → Decl → Type 0
AlikeBy free u v d = EachBit (λ text k. OnlyIf (free d.class text k) (bit_of (u text) k ≡ bit_of (v text) k)) d

module _ (ps qs : List Part) (same : AreSameMaps ps qs) (e : decls_of ps ≡ decls_of qs) where
  alike_there : (cycle : ℕ) (u v : Values) → ChooseAlike ps cycle u v → ChooseAlike qs cycle u v
  alike_there cycle u v h =
      let P : (Class → List ℕ → ℕ → Bool) → Type 0 = λ free. EachDeclared (AlikeBy free u v) qs in
      let free : (λ c text k. is_free ps c text k cycle) ≡ (λ c text k. is_free qs c text k cycle) =
      λ i c text k. same_free ps qs same c text k cycle i in
      subst P free (moved (AlikeBy (λ c text k. is_free ps c text k cycle) u v) ps qs e h)

  alike_back : (cycle : ℕ) (u v : Values) → ChooseAlike qs cycle u v → ChooseAlike ps cycle u v
  alike_back cycle u v h =
      let P : (Class → List ℕ → ℕ → Bool) → Type 0 = λ free. EachDeclared (AlikeBy free u v) ps in
      let free : (λ c text k. is_free qs c text k cycle) ≡ (λ c text k. is_free ps c text k cycle) =
      λ i c text k. sym (same_free ps qs same c text k cycle) i in
      subst P free (moved (AlikeBy (λ c text k. is_free qs c text k cycle) u v) qs ps (sym e) h)

  agrees_back : (u v : Values) → Agrees qs u v → Agrees ps u v
  agrees_back u v h = moved (λ d. AgreesAt u v d d.class) qs ps (sym e) h

  pub has_one_run : (d : ℕ) (chosen : List Values) → HasOneRun qs d chosen → HasOneRun ps d chosen
  has_one_run d chosen h = record {
    run = h.run;
    is = record {
      is_run = (same.runs d h.run).1 h.is.is_run;
      by = λ cycle le. alike_back cycle (values_at h.run cycle) (values_at chosen cycle) (h.is.by cycle le);
    };
    one = λ other r cycle le.
        let there : IsRunBy qs d chosen other = record {
          is_run = (same.runs d other).0 r.is_run;
          by = λ k less. alike_there k (values_at other k) (values_at chosen k) (r.by k less);
        } in
        agrees_back (values_at other cycle) (values_at h.run cycle) (h.one other there cycle le);
  }
