mod Pathless
