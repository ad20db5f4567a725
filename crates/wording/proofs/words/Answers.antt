-- `words` meets its contract: each arm has the words of its number in the table, which are computed, and a number that is none of them passes all. Assumes nothing.
use mathlib.Core.Path.{sym, ap, ◌∙◌}
use borrow.Author.Tests.{ne_eqb}
use Rattle.wording.specs.Wording.{bytes_of, table, words_in, text_of}
use Rattle.wording.proofs.words.Goals as goal

pub returns-in-1 : goal.returns-in-1
unfolding bytes_of table words_in
returns-in-1 c =
    c.held.ensures ∙ sym (ap text_of c.in-1.is)

pub returns-in-2 : goal.returns-in-2
unfolding bytes_of table words_in
returns-in-2 c =
    c.held-in-2.ensures ∙ sym (ap text_of c.in-2.is)

pub returns-in-3 : goal.returns-in-3
unfolding bytes_of table words_in
returns-in-3 c =
    c.held-in-3.ensures ∙ sym (ap text_of c.in-3.is)

pub returns-in-4 : goal.returns-in-4
unfolding bytes_of table words_in
returns-in-4 c =
    c.held-in-4.ensures ∙ sym (ap text_of c.in-4.is)

pub returns-in-5 : goal.returns-in-5
unfolding bytes_of table words_in
returns-in-5 c =
    c.held-in-5.ensures ∙ sym (ap text_of c.in-5.is)

pub returns-in-6 : goal.returns-in-6
unfolding bytes_of table words_in
returns-in-6 c =
    c.held-in-6.ensures ∙ sym (ap text_of c.in-6.is)

pub returns-in-7 : goal.returns-in-7
unfolding bytes_of table words_in
returns-in-7 c =
    c.held-in-7.ensures ∙ sym (ap text_of c.in-7.is)

pub returns-in-8 : goal.returns-in-8
unfolding bytes_of table words_in
returns-in-8 c =
    c.held-in-8.ensures ∙ sym (ap text_of c.in-8.is)

pub returns-in-9 : goal.returns-in-9
unfolding bytes_of table words_in
returns-in-9 c =
    c.held-in-9.ensures ∙ sym (ap text_of c.in-9.is)

pub returns-in-11 : goal.returns-in-11
unfolding bytes_of table words_in
returns-in-11 c =
    c.held-in-11.ensures ∙ sym (ap text_of c.in-11.is)

pub returns-in-12 : goal.returns-in-12
unfolding bytes_of table words_in
returns-in-12 c =
    c.held-in-12.ensures ∙ sym (ap text_of c.in-12.is)

pub returns-in-13 : goal.returns-in-13
unfolding bytes_of table words_in
returns-in-13 c =
    c.held-in-13.ensures ∙ sym (ap text_of c.in-13.is)

pub returns-in-14 : goal.returns-in-14
unfolding bytes_of table words_in
returns-in-14 c =
    c.held-in-14.ensures ∙ sym (ap text_of c.in-14.is)

pub returns-in-15 : goal.returns-in-15
unfolding bytes_of table words_in
returns-in-15 c =
    c.held-in-15.ensures ∙ sym (ap text_of c.in-15.is)

pub returns-in-16 : goal.returns-in-16
unfolding bytes_of table words_in
returns-in-16 c =
    c.held-in-16.ensures ∙ sym (ap text_of c.in-16.is)

pub returns-in-32 : goal.returns-in-32
unfolding bytes_of table words_in
returns-in-32 c =
    c.held-in-32.ensures ∙ sym (ap text_of c.in-32.is)

pub returns-in-33 : goal.returns-in-33
unfolding bytes_of table words_in
returns-in-33 c =
    c.held-in-33.ensures ∙ sym (ap text_of c.in-33.is)

pub returns-in-34 : goal.returns-in-34
unfolding bytes_of table words_in
returns-in-34 c =
    c.held-in-34.ensures ∙ sym (ap text_of c.in-34.is)

pub returns-in-35 : goal.returns-in-35
unfolding bytes_of table words_in
returns-in-35 c =
    c.held-in-35.ensures ∙ sym (ap text_of c.in-35.is)

pub returns-in-36 : goal.returns-in-36
unfolding bytes_of table words_in
returns-in-36 c =
    c.held-in-36.ensures ∙ sym (ap text_of c.in-36.is)

pub returns-in-18 : goal.returns-in-18
unfolding bytes_of table words_in
returns-in-18 c =
    c.held-in-18.ensures ∙ sym (ap text_of c.in-18.is)

pub returns-in-26 : goal.returns-in-26
unfolding bytes_of table words_in
returns-in-26 c =
    c.held-in-26.ensures ∙ sym (ap text_of c.in-26.is)

pub returns-in-19 : goal.returns-in-19
unfolding bytes_of table words_in
returns-in-19 c =
    c.held-in-19.ensures ∙ sym (ap text_of c.in-19.is)

pub returns-in-20 : goal.returns-in-20
unfolding bytes_of table words_in
returns-in-20 c =
    c.held-in-20.ensures ∙ sym (ap text_of c.in-20.is)

pub returns-in-21 : goal.returns-in-21
unfolding bytes_of table words_in
returns-in-21 c =
    c.held-in-21.ensures ∙ sym (ap text_of c.in-21.is)

pub returns-in-22 : goal.returns-in-22
unfolding bytes_of table words_in
returns-in-22 c =
    c.held-in-22.ensures ∙ sym (ap text_of c.in-22.is)

pub returns-in-27 : goal.returns-in-27
unfolding bytes_of table words_in
returns-in-27 c =
    c.held-in-27.ensures ∙ sym (ap text_of c.in-27.is)

pub returns-in-23 : goal.returns-in-23
unfolding bytes_of table words_in
returns-in-23 c =
    c.held-in-23.ensures ∙ sym (ap text_of c.in-23.is)

pub returns-in-24 : goal.returns-in-24
unfolding bytes_of table words_in
returns-in-24 c =
    c.held-in-24.ensures ∙ sym (ap text_of c.in-24.is)

pub returns-in-25 : goal.returns-in-25
unfolding bytes_of table words_in
returns-in-25 c =
    c.held-in-25.ensures ∙ sym (ap text_of c.in-25.is)

pub returns-in-28 : goal.returns-in-28
unfolding bytes_of table words_in
returns-in-28 c =
    c.held-in-28.ensures ∙ sym (ap text_of c.in-28.is)

pub returns-in-29 : goal.returns-in-29
unfolding bytes_of table words_in
returns-in-29 c =
    c.held-in-29.ensures ∙ sym (ap text_of c.in-29.is)

pub returns-in-30 : goal.returns-in-30
unfolding bytes_of table words_in
returns-in-30 c =
    c.held-in-30.ensures ∙ sym (ap text_of c.in-30.is)

pub returns-in-31 : goal.returns-in-31
unfolding bytes_of table words_in
returns-in-31 c =
    c.held-in-31.ensures ∙ sym (ap text_of c.in-31.is)

pub returns-in_default : goal.returns-in_default
unfolding bytes_of table words_in
returns-in_default c =
    let n = c.args.number in
    let other = c.in_default.in_default-own.rest in
    c.held-in_default.ensures ∙ simp (
      ne_eqb 1 n (λ e. other.0.0.0.0.0.0.0.0.0.0.0.0.0.0.0.0.0.0.0.0.0.0.0.0.0.0.0.0.0.0.0.0.0.1 (sym e)),
      ne_eqb 2 n (λ e. other.0.0.0.0.0.0.0.0.0.0.0.0.0.0.0.0.0.0.0.0.0.0.0.0.0.0.0.0.0.0.0.0.1 (sym e)),
      ne_eqb 3 n (λ e. other.0.0.0.0.0.0.0.0.0.0.0.0.0.0.0.0.0.0.0.0.0.0.0.0.0.0.0.0.0.0.0.1 (sym e)),
      ne_eqb 4 n (λ e. other.0.0.0.0.0.0.0.0.0.0.0.0.0.0.0.0.0.0.0.0.0.0.0.0.0.0.0.0.0.0.1 (sym e)),
      ne_eqb 5 n (λ e. other.0.0.0.0.0.0.0.0.0.0.0.0.0.0.0.0.0.0.0.0.0.0.0.0.0.0.0.0.0.1 (sym e)),
      ne_eqb 6 n (λ e. other.0.0.0.0.0.0.0.0.0.0.0.0.0.0.0.0.0.0.0.0.0.0.0.0.0.0.0.0.1 (sym e)),
      ne_eqb 7 n (λ e. other.0.0.0.0.0.0.0.0.0.0.0.0.0.0.0.0.0.0.0.0.0.0.0.0.0.0.0.1 (sym e)),
      ne_eqb 8 n (λ e. other.0.0.0.0.0.0.0.0.0.0.0.0.0.0.0.0.0.0.0.0.0.0.0.0.0.0.1 (sym e)),
      ne_eqb 9 n (λ e. other.0.0.0.0.0.0.0.0.0.0.0.0.0.0.0.0.0.0.0.0.0.0.0.0.0.1 (sym e)),
      ne_eqb 11 n (λ e. other.0.0.0.0.0.0.0.0.0.0.0.0.0.0.0.0.0.0.0.0.0.0.0.0.1 (sym e)),
      ne_eqb 12 n (λ e. other.0.0.0.0.0.0.0.0.0.0.0.0.0.0.0.0.0.0.0.0.0.0.0.1 (sym e)),
      ne_eqb 13 n (λ e. other.0.0.0.0.0.0.0.0.0.0.0.0.0.0.0.0.0.0.0.0.0.0.1 (sym e)),
      ne_eqb 14 n (λ e. other.0.0.0.0.0.0.0.0.0.0.0.0.0.0.0.0.0.0.0.0.0.1 (sym e)),
      ne_eqb 15 n (λ e. other.0.0.0.0.0.0.0.0.0.0.0.0.0.0.0.0.0.0.0.0.1 (sym e)),
      ne_eqb 16 n (λ e. other.0.0.0.0.0.0.0.0.0.0.0.0.0.0.0.0.0.0.0.1 (sym e)),
      ne_eqb 32 n (λ e. other.0.0.0.0.0.0.0.0.0.0.0.0.0.0.0.0.0.0.1 (sym e)),
      ne_eqb 33 n (λ e. other.0.0.0.0.0.0.0.0.0.0.0.0.0.0.0.0.0.1 (sym e)),
      ne_eqb 34 n (λ e. other.0.0.0.0.0.0.0.0.0.0.0.0.0.0.0.0.1 (sym e)),
      ne_eqb 35 n (λ e. other.0.0.0.0.0.0.0.0.0.0.0.0.0.0.0.1 (sym e)),
      ne_eqb 36 n (λ e. other.0.0.0.0.0.0.0.0.0.0.0.0.0.0.1 (sym e)),
      ne_eqb 18 n (λ e. other.0.0.0.0.0.0.0.0.0.0.0.0.0.1 (sym e)),
      ne_eqb 26 n (λ e. other.0.0.0.0.0.0.0.0.0.0.0.0.1 (sym e)),
      ne_eqb 19 n (λ e. other.0.0.0.0.0.0.0.0.0.0.0.1 (sym e)),
      ne_eqb 20 n (λ e. other.0.0.0.0.0.0.0.0.0.0.1 (sym e)),
      ne_eqb 21 n (λ e. other.0.0.0.0.0.0.0.0.0.1 (sym e)),
      ne_eqb 22 n (λ e. other.0.0.0.0.0.0.0.0.1 (sym e)),
      ne_eqb 27 n (λ e. other.0.0.0.0.0.0.0.1 (sym e)),
      ne_eqb 23 n (λ e. other.0.0.0.0.0.0.1 (sym e)),
      ne_eqb 24 n (λ e. other.0.0.0.0.0.1 (sym e)),
      ne_eqb 25 n (λ e. other.0.0.0.0.1 (sym e)),
      ne_eqb 28 n (λ e. other.0.0.0.1 (sym e)),
      ne_eqb 29 n (λ e. other.0.0.1 (sym e)),
      ne_eqb 30 n (λ e. other.0.1 (sym e)),
      ne_eqb 31 n (λ e. other.1 (sym e)),
    )
