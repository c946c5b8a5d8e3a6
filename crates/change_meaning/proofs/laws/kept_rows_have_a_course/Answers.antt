use Rattle.change_meaning.proofs.CourseLaws.{course_is, given_is}
use Rattle.change_meaning.proofs.FreeLaws.{all_kept, free}
use Rattle.change_meaning.proofs.laws.kept_rows_have_a_course.Goals as goal

pub returns : goal.returns
returns c = record {
  course = course_is;
  gives = λ steps ok caps b before after es mv i t e s r. given_is steps ok caps b before after es mv s r (caps.cap i) t (ok.keyed i t e);
  free = free;
  all = all_kept;
}
