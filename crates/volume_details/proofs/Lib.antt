mod Sectioned
