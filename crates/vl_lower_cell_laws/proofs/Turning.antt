-- One more driver behind the others.
use Rattle.std.specs.Prelude.{◌≡◌, refl, ℕ, ◌<◌, List, [], ◌∷◌, ◌++◌, Some, slice_get}
use Rattle.std.proofs.Common.{ap, sym, ◌∙◌, subst}
use Rattle.vl_size.specs.declared.decl.Decl.{Decl}
use Rattle.vl_size.specs.Size.{Values}
use Rattle.vl_mean.specs.declared.driver.Driver.{Driver}
use Rattle.vl_mean.specs.Runs.{Each}
use Rattle.vl_mean_flat.proofs.EachOf.{back, both, front}
use Rattle.wn_net.specs.Value.{Given}
use Rattle.wn_net.specs.Net.{Netlist, AreNodes, value_at}
use Rattle.wn_net.specs.Changes.{AddsNodes}
use Rattle.wn_net.proofs.Laws.{adds_none, adds_on}
use Rattle.vl_lower_assign.specs.Frames.{Cells, IsFrame, Stand}
use Rattle.vl_lower_assign.proofs.Behind.{met_back, met_on, nodes_on}
use Rattle.vl_lower_spec.specs.Settled.{driven_by_this, settled}
use Rattle.vl_lower_cell_laws.specs.Ticked.{stored_by, ticked}
use Rattle.vl_lower_cell_laws.specs.Left.{left, left_by_this, seen_at_edge, seen_at_edges, seen_by_this, seen_in}
use Rattle.vl_lower_cell_laws.specs.Cycles.{AllCyclesGrow, Tell, Turns}

-- ---- one more in a list

no_more : (xs : List ℕ) → xs ++ [] ≡ xs
no_more [] = refl
no_more (x ∷ xs) = ap (λ zs. x ∷ zs) (no_more xs)

grouped : (xs ys zs : List ℕ) → (xs ++ ys) ++ zs ≡ xs ++ (ys ++ zs)
grouped [] ys zs = refl
grouped (x ∷ xs) ys zs = ap (λ ws. x ∷ ws) (grouped xs ys zs)

module _ (ds : List Decl) (drivers : List Driver) (i : ℕ) where
  settled_more : (js : List ℕ) (v : Values)
      → settled ds drivers (js ++ i ∷ []) v ≡ driven_by_this ds (slice_get drivers i) (settled ds drivers js v)
  settled_more [] v = refl
  settled_more (j ∷ js) v = settled_more js (driven_by_this ds (slice_get drivers j) v)

  left_more : (js : List ℕ) (v w : Values)
      → left ds drivers (js ++ i ∷ []) v w
      ≡ left_by_this ds (slice_get drivers i) (settled ds drivers js v) (left ds drivers js v w)
  left_more [] v w = refl
  left_more (j ∷ js) v w =
      left_more js (driven_by_this ds (slice_get drivers j) v) (left_by_this ds (slice_get drivers j) v w)

  seen_more : (js : List ℕ) (v : Values)
      → seen_in ds drivers (js ++ i ∷ []) v
      ≡ seen_in ds drivers js v ++ seen_by_this ds (slice_get drivers i) (settled ds drivers js v)
  seen_more [] v = no_more (seen_by_this ds (slice_get drivers i) v)
  seen_more (j ∷ js) v =
      ap (λ zs. seen_by_this ds (slice_get drivers j) v ++ zs)
      (seen_more js (driven_by_this ds (slice_get drivers j) v))
      ∙ sym (grouped (seen_by_this ds (slice_get drivers j) v)
      (seen_in ds drivers js (driven_by_this ds (slice_get drivers j) v))
      (seen_by_this ds (slice_get drivers i)
      (settled ds drivers js (driven_by_this ds (slice_get drivers j) v))))

ticked_more : (ds : List Decl) (x : Driver) (ys : List Driver) (v w : Values)
    → ticked ds (ys ++ x ∷ []) v w ≡ stored_by ds x.what v (ticked ds ys v w)
ticked_more ds x [] v w = refl
ticked_more ds x (y ∷ ys) v w = ticked_more ds x ys v (stored_by ds y.what v w)

edges_more : (ds : List Decl) (x : Driver) (ys : List Driver) (v : Values)
    → seen_at_edges ds (ys ++ x ∷ []) v ≡ seen_at_edges ds ys v ++ seen_at_edge ds x.what v
edges_more ds x [] v = no_more (seen_at_edge ds x.what v)
edges_more ds x (y ∷ ys) v =
    ap (λ zs. seen_at_edge ds y.what v ++ zs) (edges_more ds x ys v)
    ∙ sym (grouped (seen_at_edge ds y.what v) (seen_at_edges ds ys v) (seen_at_edge ds x.what v))

-- ---- turns one after the other

nodes_both : (net : Netlist) (xs ys : List ℕ) → AreNodes net xs → AreNodes net ys → AreNodes net (xs ++ ys)
nodes_both net [] ys h g = g
nodes_both net (x ∷ xs) ys h g = (h.0, nodes_both net xs ys h.1 g)

module _ (ds : List Decl) (old mid new : Netlist) (f h k : Cells) (xs ys : List ℕ)
    (now also : Values → Values) (next follow : Values → Values → Values) (seen more : Values → List ℕ) where
  turns_then : AddsNodes old new → Turns old mid ds f h xs now next seen → Turns mid new ds h k ys also follow more
      → Turns old new ds f k (xs ++ ys) (λ v. also (now v)) (λ v w. follow (now v) (next v w))
      (λ v. seen v ++ more (now v))
  turns_then adds a b = record {
    adds = adds;
    frame = b.frame;
    there = nodes_both new xs ys (nodes_on mid new xs b.adds a.there) b.there;
    comes = λ g v w is first later.
        let r = a.comes g v w is first later in
        let q = b.comes g (now v) (next v w) (a.adds.keeps.given g is) r.0 r.1 in
        (q.0, q.1, tell g v r.2 q.2);
  }
    where
      Holds : List ℕ → Type 0
      Holds zs = Each (λ x. 0 < x) zs

      Met : Netlist → Given → List ℕ → Type 0
      Met net g zs = Each (λ id. 0 < value_at net g id) zs

      tell : (g : Given) (v : Values) → Tell mid g (seen v) xs → Tell new g (more (now v)) ys
          → Tell new g (seen v ++ more (now v)) (xs ++ ys)
      tell g v r q = (
        λ t. both (λ id. 0 < value_at new g id) xs ys
            (met_on mid new g xs b.adds a.there (r.0 (front (λ x. 0 < x) (seen v) (more (now v)) t)))
            (q.0 (back (λ x. 0 < x) (seen v) (more (now v)) t)),
        λ t. both (λ x. 0 < x) (seen v) (more (now v))
            (r.1 (met_back mid new g xs b.adds a.there (front (λ id. 0 < value_at new g id) xs ys t)))
            (q.1 (back (λ id. 0 < value_at new g id) xs ys t)),
      )
      -- the same under other names

turns_as : (ds : List Decl) (old new : Netlist) (f k : Cells) (xs : List ℕ) (now also : Values → Values)
    (next follow : Values → Values → Values) (seen more : Values → List ℕ) → ((v : Values) → now v ≡ also v)
    → ((v w : Values) → next v w ≡ follow v w) → ((v : Values) → seen v ≡ more v)
    → Turns old new ds f k xs now next seen → Turns old new ds f k xs also follow more
turns_as ds old new f k xs now also next follow seen more e n s t = record {
  adds = t.adds;
  frame = t.frame;
  there = t.there;
  comes = λ g v w is first later.
      let r = t.comes g v w is first later in (
        subst (Stand new g ds k.now) (e v) r.0,
        subst (Stand new g ds k.next) (n v w) r.1,
        subst (λ zs. Tell new g zs xs) (s v) r.2,
      );
}

turns_none : (ds : List Decl) (net : Netlist) (f : Cells) → IsFrame net ds f
    → Turns net net ds f f [] (λ v. v) (λ v w. w) (λ v. [])
turns_none ds net f own = record {
  adds = adds_none net;
  frame = own;
  there = tt;
  comes = λ g v w is first later. (first, later, (λ t. tt, λ t. tt));
}

pub grow : AllCyclesGrow
grow ds drivers old mid new f h k xs ys = record {
  settles_none = turns_none ds old f;
  ticks_none = turns_none ds old f;
  settles_more = λ numbers i x at a b.
      let same : slice_get drivers i ≡ Some x = at in
      turns_as ds old new f k (xs ++ ys) (λ v. driven_by_this ds (Some x) (settled ds drivers numbers v))
      (settled ds drivers (numbers ++ i ∷ []))
      (λ v w. left_by_this ds (Some x) (settled ds drivers numbers v) (left ds drivers numbers v w))
      (left ds drivers (numbers ++ i ∷ []))
      (λ v. seen_in ds drivers numbers v ++ seen_by_this ds (Some x) (settled ds drivers numbers v))
      (seen_in ds drivers (numbers ++ i ∷ []))
      (λ v. ap (λ o. driven_by_this ds o (settled ds drivers numbers v)) (sym same)
      ∙ sym (settled_more ds drivers i numbers v))
      (λ v w. ap (λ o. left_by_this ds o (settled ds drivers numbers v) (left ds drivers numbers v w)) (sym same)
      ∙ sym (left_more ds drivers i numbers v w))
      (λ v. ap (λ o. seen_in ds drivers numbers v ++ seen_by_this ds o (settled ds drivers numbers v)) (sym same)
      ∙ sym (seen_more ds drivers i numbers v))
      (turns_then ds old mid new f h k xs ys (settled ds drivers numbers) (driven_by_this ds (Some x))
      (left ds drivers numbers) (left_by_this ds (Some x)) (seen_in ds drivers numbers) (seen_by_this ds (Some x))
      (adds_on old mid new a.adds b.adds) a b);
  ticks_more = λ done x a b.
      turns_as ds old new f k (xs ++ ys) (λ v. v) (λ v. v) (λ v w. stored_by ds x.what v (ticked ds done v w))
      (ticked ds (done ++ x ∷ [])) (λ v. seen_at_edges ds done v ++ seen_at_edge ds x.what v)
      (seen_at_edges ds (done ++ x ∷ [])) (λ v. refl) (λ v w. sym (ticked_more ds x done v w))
      (λ v. sym (edges_more ds x done v))
      (turns_then ds old mid new f h k xs ys (λ v. v) (λ v. v) (ticked ds done) (stored_by ds x.what)
      (seen_at_edges ds done) (seen_at_edge ds x.what) (adds_on old mid new a.adds b.adds) a b);
}
