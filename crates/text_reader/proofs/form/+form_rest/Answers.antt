-- The cycle of `text_reader::form::form` and `rest` meets its contracts.
use Rattle.std.proofs.Common.{arith}
use Rattle.std.proofs.lemmas.Result.{err_from_is_err_and}
use Rattle.text_reader.proofs.FormCases.{deep, broken, line, leaf, inner, ends, full, child-stops, goes_on}
use Rattle.text_reader.proofs.form.+form_rest.Goals as goal

pub form-returns-then-left-eq0 : goal.form-returns-then-left-eq0
form-returns-then-left-eq0 t c = deep _ _ _ _ _ _ _ c.if-left-eq0.true c.too_deep.ensures

pub form-returns-in_err-kind : goal.form-returns-in_err-kind
form-returns-in_err-kind t c =
    let p = err_from_is_err_and c.from_residual.result c.from_residual.ensures.1 in
    rw (p.1, p.2) (broken _ _ _ _ _ _ _ c.if-left-eq0.false c.in_err-kind.ensures.0)

pub form-returns-in-Leaf : goal.form-returns-in-Leaf
form-returns-in-Leaf t c =
    let h = rw c.in-Leaf.is at c.in_ok-kind.ensures in
    leaf _ _ _ _ _ _ _ _ _ c.if-left-eq0.false h.0 (omega (arith, h.1)) _ c.leaf_words.ensures _ _ c.close.ensures

pub form-returns-in-Line : goal.form-returns-in-Line
form-returns-in-Line t c =
    let h = rw c.in-Line.is at c.in_ok-kind.ensures in
    line _ _ _ _ _ _ _ _ c.if-left-eq0.false h.0 (omega (arith, h.1))

pub form-returns-in-Inner : goal.form-returns-in-Inner
form-returns-in-Inner t c =
    let h = rw c.in-Inner.is at c.in_ok-kind.ensures in
    inner _ _ _ _ _ _ _ _ c.if-left-eq0.false h.0 (omega (arith, h.1)) _ c.no_children.ensures _ _ c.rest.ensures

pub rest-returns-then-byte_at-ne-SPACE : goal.rest-returns-then-byte_at-ne-SPACE
rest-returns-then-byte_at-ne-SPACE t c =
    ends _ _ _ _ _ _ _ _ c.byte_at.ensures c.if-byte_at-ne-SPACE.true _ _ c.end.ensures

pub rest-returns-then-most_forms-children : goal.rest-returns-then-most_forms-children
rest-returns-then-most_forms-children t c =
    full _ _ _ _ _ _ _ _ c.most_forms.ensures.0 c.if-most_forms-children.true _ _
    c.end-then-most_forms-children.ensures

pub rest-returns-in_err-past : goal.rest-returns-in_err-past
rest-returns-in_err-past t c =
    let p = err_from_is_err_and c.from_residual.result c.from_residual.ensures.1 in
    let h = c.in_err-past.ensures in
    rw (p.1, p.2) (child-stops _ _ _ _ _ _ _ _ c.byte_at.ensures c.if-byte_at-ne-SPACE.false _ c.most_forms.ensures.0
    c.if-most_forms-children.false _ h.1 _ h.0)

pub rest-returns : goal.rest-returns
rest-returns t c =
    let h = c.in_ok-past.ensures in
    goes_on _ _ _ _ _ _ _ _ c.byte_at.ensures c.if-byte_at-ne-SPACE.false _ c.most_forms.ensures.0
    c.if-most_forms-children.false _ h.1 _ _ _ h.0 (omega (arith, h.2)) _ c.with_child.ensures _ _ c.rest.ensures
