mod SaidPieces
mod Reading
mod MemberPicture
mod Numbers
mod Lacking
mod Adding
mod Matching
mod Telling
