-- Names that a scope declares one behind the other.
use Rattle.std.specs.Prelude.{◌≡◌, refl, ℕ, List, [], ◌∷◌, ◌++◌, map, Bool, true, false, ◌&&◌, ◌||◌, not, ◌==◌}
use Rattle.std.specs.List.{list_all}
use Rattle.std.specs.Prelude.{bytes_eq}
use Rattle.std.proofs.Common.{ap, sym, ◌∙◌, true≢false}
use Rattle.vl_tree.specs.declared.declaration.Parameter.{Parameter}
use Rattle.vl_tree.specs.declared.declaration.ParameterKind.{ParameterKind}
use Rattle.vl_tree.specs.ExprWellFormed.{IsName}
use Rattle.vl_size.specs.declared.decl.Decl.{Decl}
use Rattle.vl_size.specs.Table.{AreDifferent, is_declared, is_plain}
use Rattle.vl_mean.specs.Cells.{contains_name}
use Rattle.vl_mean.specs.Walk.{Place, parameter_names}
use Rattle.vl_mean_flat.proofs.EachOf.{both, each_map}
use Rattle.vl_elab_spec.specs.Items.{parameters_refusals}
use Rattle.vl_elab_accepted_laws.proofs.Contained.{Has, Lacks, clash, different-append, each-of, lacks-back}
use Rattle.vl_elab_accepted_laws.proofs.Contained.{lacks-front}
use Rattle.vl_elab_accepted_laws.proofs.Contained.{Different as AllDifferent}
use Rattle.vl_elab_accepted_laws.proofs.Fresh.{AreNew, NoneOf, none-front, none-back, not-refused}
use Rattle.vl_elab_accepted_laws.proofs.Genblk.{is_mark}
use Rattle.vl_elab_accepted_laws.proofs.Plain.{name-plain}
use Rattle.vl_elab_accepted_laws.proofs.Texts.{is_free}
use Rattle.vl_elab_const.specs.Openable.{Different}

-- ---- names that are new, and differ

pub differ : (ns : List (List ℕ)) → AllDifferent ns → Different ns
differ [] h = tt
differ (n ∷ ns) h = (h.0, differ ns h.1)

pub new_none : (earlier : List (List ℕ)) → AreNew earlier []
new_none earlier = record { new = tt; different = tt }

pub new_one : (earlier : List (List ℕ)) (n : List ℕ) → Lacks earlier n → AreNew earlier (n ∷ [])
new_one earlier n h = record { new = (h, tt); different = (refl, tt) }

pub new_fewer : (earlier more ns : List (List ℕ)) → AreNew (earlier ++ more) ns → AreNew earlier ns
new_fewer earlier more ns h =
    record { new = each_map (λ n l. lacks-front earlier more n l) ns h.new; different = h.different }

pub new_both : (earlier ns ms : List (List ℕ)) → AreNew earlier ns → AreNew (earlier ++ ns) ms
    → AreNew earlier (ns ++ ms)
new_both earlier ns ms h k = record {
  new = both (Lacks earlier) ns ms h.new (new_fewer earlier ns ms k).new;
  different = different-append (Has ns) (Lacks (earlier ++ ns)) ns ms
      (λ n there new. clash there (lacks-back earlier ns n new)) (each-of (Has ns) ns (λ n there. there)) k.new
      h.different k.different;
}

pub parameters_new : (at : Place) (kind : ParameterKind) (earlier : List (List ℕ)) (xs : List Parameter)
    → NoneOf (parameters_refusals at kind earlier xs) → AreNew earlier (parameter_names xs)
parameters_new at kind earlier [] h = new_none earlier
parameters_new at kind earlier (x ∷ xs) h =
    new_both earlier (x.name ∷ []) (parameter_names xs)
    (new_one earlier x.name (not-refused (contains_name earlier x.name) _
    (none-front _ _ (none-front _ _ (none-front _ _
    (none-front _ (parameters_refusals at kind (earlier ++ x.name ∷ []) xs) h))))))
    (parameters_new at kind (earlier ++ x.name ∷ []) xs (none-back _ _ h))

-- ---- declared names

abbrev pub decl_names : List Decl → List (List ℕ)
decl_names ds = map (λ d. d.name) ds

pub names_append : (ds es : List Decl) → decl_names (ds ++ es) ≡ decl_names ds ++ decl_names es
names_append [] es = refl
names_append (d ∷ ds) es = ap (λ l. d.name ∷ l) (names_append ds es)

declared_so : (ds : List Decl) (text : List ℕ) → is_declared ds text ≡ contains_name (decl_names ds) text
declared_so [] text = refl
declared_so (d ∷ ds) text = ap (λ b. bytes_eq text d.name || b) (declared_so ds text)

pub decls_differ : (ds : List Decl) → AllDifferent (decl_names ds) → AreDifferent ds
decls_differ [] h = tt
decls_differ (d ∷ ds) h = (declared_so ds d.name ∙ h.0, decls_differ ds h.1)

-- ---- names without a bracket

free_plain : (cs : List ℕ) → is_free is_mark cs ≡ true → is_plain cs ≡ true
free_plain [] h = refl
free_plain (c ∷ cs) h = by (c == 46) (c == 91) h (free_plain cs)
  where
    by : (a b : Bool) → (not (a || b) && is_free is_mark cs) ≡ true
        → (is_free is_mark cs ≡ true → list_all (λ c. not (c == 91)) cs ≡ true)
        → (not b && list_all (λ c. not (c == 91)) cs) ≡ true
    by true b h next = absurd (true≢false (sym h))
    by false true h next = absurd (true≢false (sym h))
    by false false h next = next h

pub plain_name : (text : List ℕ) → IsName text → is_plain text ≡ true
plain_name text h = free_plain text (name-plain text h)
