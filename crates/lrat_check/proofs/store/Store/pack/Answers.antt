use Rattle.std.proofs.Common.{◌≡◌, true, length, replicate, subst, sym, ap, ◌∙◌}
use Rattle.cnf_form.specs.Flat.{Mounting}
use Rattle.lrat_check.specs.Store.{coded, above, marked, packed, packed_starts}
use Rattle.lrat_check.proofs.Rows.{mounts}
use Rattle.lrat_check.proofs.Packing.{lies_packed, same_packed}
use Rattle.lrat_check.proofs.store.Store.pack.Goals as goal

pub packed_starts-requires-clause-mounting : goal.packed_starts-requires-clause-mounting
packed_starts-requires-clause-mounting c =
    let all = c.self.inside.codes.items in
    let ids = c.self.inside.ids in
    let starts = c.self.inside.starts.items in
    let held = c.self.inside.held.items in
    let top = above c.self.inside.last in
    subst (Mounting c.deref-2.result.now) (sym (c.len.ensures ∙ c.self.inside.codes.ok.0))
    (subst (λ z. Mounting z (length all)) (sym c.deref-2.ensures.value)
    (mounts ids starts held (length all) top c.self.invariant))

pub pack_codes-requires-clause-mounting : goal.pack_codes-requires-clause-mounting
pack_codes-requires-clause-mounting c =
    let all = c.self.inside.codes.items in
    let ids = c.self.inside.ids in
    let starts = c.self.inside.starts.items in
    let held = c.self.inside.held.items in
    let top = above c.self.inside.last in
    subst (λ z. Mounting z (length all)) (sym c.deref-4.ensures.value)
    (mounts ids starts held (length all) top c.self.invariant)

pub invariant_of-self : goal.invariant_of-self
invariant_of-self c =
    let all = c.self.inside.codes.items in
    let ids = c.self.inside.ids in
    let starts = c.self.inside.starts.items in
    let held = c.self.inside.held.items in
    let top = above c.self.inside.last in
    let end : c.len.result ≡ length all = c.len.ensures ∙ c.self.inside.codes.ok.0 in
    let i : c.in-Ok.ids ≡ marked ids held = c.in-Ok.ensures ∙ ap (marked ids) c.deref.ensures.value in
    let s : c.in-Ok-packed_starts.starts.items ≡ packed_starts starts held (length all) 0 =
    c.in-Ok-packed_starts.ensures
    ∙ ap (λ z. packed_starts z c.deref-3.result.now c.len.result 0) c.deref-2.ensures.value
    ∙ ap (λ z. packed_starts starts z c.len.result 0) c.deref-3.ensures.value
    ∙ ap (λ n. packed_starts starts held n 0) end in
    let h : c.in-Ok-from_elem.held.items ≡ replicate (length c.in-Ok-packed_starts.starts.items) true =
    c.in-Ok-from_elem.ensures.items_if_clones_equal (λ y e. e)
    ∙ ap (λ n. replicate n true) (c.len-2.ensures ∙ c.in-Ok-packed_starts.starts.ok.0) in
    let k : c.shrink_to.new.self.items ≡ packed all starts held =
    c.shrink_to.ensures.items ∙ c.pack_codes.ensures
    ∙ ap (λ z. packed all z c.deref-5.result.now) c.deref-4.ensures.value
    ∙ ap (packed all starts) c.deref-5.ensures.value in
    lies_packed all ids starts held top c.self.invariant c.shrink_to.new.self.items c.in-Ok.ids
    c.in-Ok-packed_starts.starts.items c.in-Ok-from_elem.held.items k i s h

pub returns-clause-coded : goal.returns-clause-coded
returns-clause-coded c =
    let all = c.self.inside.codes.items in
    let ids = c.self.inside.ids in
    let starts = c.self.inside.starts.items in
    let held = c.self.inside.held.items in
    let top = above c.self.inside.last in
    let end : c.len.result ≡ length all = c.len.ensures ∙ c.self.inside.codes.ok.0 in
    let i : c.in-Ok.ids ≡ marked ids held = c.in-Ok.ensures ∙ ap (marked ids) c.deref.ensures.value in
    let s : c.in-Ok-packed_starts.starts.items ≡ packed_starts starts held (length all) 0 =
    c.in-Ok-packed_starts.ensures
    ∙ ap (λ z. packed_starts z c.deref-3.result.now c.len.result 0) c.deref-2.ensures.value
    ∙ ap (λ z. packed_starts starts z c.len.result 0) c.deref-3.ensures.value
    ∙ ap (λ n. packed_starts starts held n 0) end in
    let h : c.in-Ok-from_elem.held.items ≡ replicate (length c.in-Ok-packed_starts.starts.items) true =
    c.in-Ok-from_elem.ensures.items_if_clones_equal (λ y e. e)
    ∙ ap (λ n. replicate n true) (c.len-2.ensures ∙ c.in-Ok-packed_starts.starts.ok.0) in
    let k : c.shrink_to.new.self.items ≡ packed all starts held =
    c.shrink_to.ensures.items ∙ c.pack_codes.ensures
    ∙ ap (λ z. packed all z c.deref-5.result.now) c.deref-4.ensures.value
    ∙ ap (packed all starts) c.deref-5.ensures.value in
    same_packed all ids starts held top c.self.invariant c.shrink_to.new.self.items c.in-Ok.ids
    c.in-Ok-packed_starts.starts.items c.in-Ok-from_elem.held.items k i s h
    ∙ ap coded c.self.view_is
